-- A superblock step at a level: its refinements in raster order, then its blocks in raster order.
use Rattle.std.specs.Prelude.{ℕ, zero, suc, ◌+◌, ◌-◌, ◌*◌, ◌/◌, ◌%◌, min, Bool, cond, List, eqb, ℤ}
use Rattle.ground.specs.Every.{all_below}
use Rattle.motion.specs.Limits.{cell_side, superblock_side}
use Rattle.motion.specs.Level.{level_of}
use Rattle.motion.specs.Superblock.{superblock_x, superblock_y}
use Rattle.grid.specs.declared.cells.MEStats.{MEStats}
use Rattle.grid.specs.Grid.{Grid}
use Rattle.grid.specs.Previous.{Previous}
use Rattle.grid.specs.Save.{save_block}
use Rattle.points.specs.Window.{window_ok}
use Rattle.estimate.specs.Inputs.{Inputs}
use Rattle.estimate.specs.Block.{estimate_motion, window_at, refine_motion}

-- how many blocks of a size lie along a side of the superblock whose first cell is b, cropped at the frame edge
unfoldable pub blocks_along : ℕ → ℕ → ℕ → ℕ
blocks_along side size b = (min superblock_side (side - cell_side * b) + (size - 1)) / size

-- how many blocks of a size superblock n has
unfoldable pub block_count : (width height size n : ℕ) → ℕ
block_count width height size n = blocks_along width size (superblock_x width n) * blocks_along height size (superblock_y width n)

-- block k of superblock n in raster order: its column
unfoldable pub block_x : (width size n k : ℕ) → ℕ
block_x width size n k = superblock_x width n + size / cell_side * (k % blocks_along width size (superblock_x width n))

-- and its row
unfoldable pub block_y : (width size n k : ℕ) → ℕ
block_y width size n k = superblock_y width n + size / cell_side * (k / blocks_along width size (superblock_x width n))

-- the first k blocks of a size in turn: each result comes from the grid as it stands, and goes to the block's cells
unfoldable pub worked : (result : ℕ → ℕ → Grid → MEStats) (width height size n count : ℕ) (g : Grid) → Grid
worked result width height size n zero g = g
worked result width height size n (suc k) g =
    let now = worked result width height size n k g in
    let bx = block_x width size n k in
    let by = block_y width size n k in
    save_block width height size bx by (result bx by now) now

-- how many refinements a step has; level 4 refines nothing
unfoldable pub refined_count : (width height level n : ℕ) → ℕ
refined_count width height level n = cond (eqb level 4) 0 (block_count width height (level_of level).refined n)

-- no refinement of the step has an empty window, in the grid before the step
unfoldable pub windows_ok : (width height level n : ℕ) (rows cols : List ℤ) → Bool
windows_ok width height level n rows cols =
    let size = (level_of level).refined in
    all_below (refined_count width height level n)
    (λ k. window_ok (window_at width height level (block_x width size n k) (block_y width size n k) rows cols))

unfoldable pub refinements : Inputs → ℕ → Grid → Grid
refinements i n g =
    worked (λ bx by g. refine_motion i bx by g.rows g.cols) i.width i.height (level_of i.level).refined n
    (refined_count i.width i.height i.level n) g

unfoldable pub estimates : (i : Inputs) (p : Previous) (n : ℕ) (g : Grid) → Grid
estimates i p n g =
    let size = (level_of i.level).mv_size in
    worked (estimate_motion i p) i.width i.height size n (block_count i.width i.height size n) g

-- where a window is empty the grid stays as it stood
unfoldable pub step : (i : Inputs) (p : Previous) (n : ℕ) (g : Grid) → Grid
step i p n g =
    cond (windows_ok i.width i.height i.level n g.rows g.cols) (estimates i p n (refinements i n g)) g
