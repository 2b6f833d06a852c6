-- The cells that a block samples, round it and in its middle.
use Rattle.std.specs.Prelude.{ℕ, ◌+◌, ◌-◌, ◌*◌, ◌/◌, ◌%◌, Bool, true, false, not, cond, ◌&&◌, List, [], ◌∷◌, ◌++◌, ltb, eqb}
use Rattle.motion.specs.Limits.{cell_side, superblock_side}
use Rattle.motion.specs.Level.{level_of}
use Rattle.motion.specs.Block.{cropped_to}
use Rattle.grid.specs.Grid.{cell_at}

-- block width or height in cells, cropped at the frame edge
unfoldable pub cells_along : ℕ → ℕ → ℕ → ℕ
cells_along side size b = cropped_to side size b / cell_side

-- a cell, where it is taken
unfoldable pub taken : Bool → ℕ → List ℕ
taken true i = i ∷ []
taken false i = []

-- left (bx−1, by+hc/2), top (bx+wc/2, by−1), right (bx+wc, by+hc/2), bottom (bx+wc/2, by+hc), those inside the grid; right and
-- bottom only where they are asked for
unfoldable pub neighbours : (width height size bx by : ℕ) (right bottom : Bool) → List ℕ
neighbours width height size bx by right bottom =
    let wc = cells_along width size bx in
    let hc = cells_along height size by in
    taken (ltb 0 bx) (cell_at width (bx - 1) (by + hc / 2)) ++ taken (ltb 0 by) (cell_at width (bx + wc / 2) (by - 1))
    ++ taken (right && ltb (bx + wc) (width / cell_side)) (cell_at width (bx + wc) (by + hc / 2))
    ++ taken (bottom && ltb (by + hc) (height / cell_side)) (cell_at width (bx + wc / 2) (by + hc))

-- centre (bx+wc/2, by+hc/2)
unfoldable pub centre_cell : (width height size bx by : ℕ) → ℕ
centre_cell width height size bx by =
    cell_at width (bx + cells_along width size bx / 2) (by + cells_along height size by / 2)

-- only at levels 3 and 2 and only for odd block columns of the superblock; likewise for odd block rows
unfoldable pub odd_block : ℕ → ℕ → Bool
odd_block level b = not (eqb level 4) && eqb ((cell_side * b) % superblock_side / (level_of level).mv_size % 2) 1

-- the cells of B
unfoldable pub cells_b : (width height level bx by : ℕ) → List ℕ
cells_b width height level bx by =
    neighbours width height (level_of level).mv_size bx by (odd_block level bx) (odd_block level by)

-- the cells of C, if a previous grid is present: left, top, right, bottom, then centre, no odd rule
unfoldable pub cells_c : (width height level bx by : ℕ) (present : Bool) → List ℕ
cells_c width height level bx by present =
    let size = (level_of level).mv_size in
    cond present (neighbours width height size bx by true true ++ (centre_cell width height size bx by ∷ [])) []

-- the current grid's centre, at levels 3 and 2
unfoldable pub cells_centre : (width height level bx by : ℕ) → List ℕ
cells_centre width height level bx by =
    taken (not (eqb level 4)) (centre_cell width height (level_of level).mv_size bx by)
