-- A result goes to all cells of its block.
use Rattle.std.specs.Prelude.{ℕ, suc, ◌+◌, ◌/◌, ◌%◌, Bool, ◌&&◌, cond, List, [], ◌∷◌, leb, ltb}
use Rattle.motion.specs.Limits.{cell_side}
use Rattle.grid.specs.declared.cells.MEStats.{MEStats}
use Rattle.grid.specs.Grid.{Grid}

-- from a place on, what stands where the test passes is replaced
unfoldable pub replace_from : {A : Type 0} (i : ℕ) (test : ℕ → Bool) (new : A) (xs : List A) → List A
replace_from i test new [] = []
replace_from i test new (x ∷ xs) = cond (test i) new x ∷ replace_from (suc i) test new xs

unfoldable pub replace : {A : Type 0} (test : ℕ → Bool) (new : A) (xs : List A) → List A
replace test new xs = replace_from 0 test new xs

-- a result saved in the cells that pass a test
unfoldable pub save_where : (ℕ → Bool) → MEStats → Grid → Grid
save_where test stats g =
    record {
      rows = replace test stats.mv.row g.rows;
      cols = replace test stats.mv.col g.cols;
      sads = replace test stats.normalized_sad g.sads;
    }

-- a number from one end up to another
unfoldable pub up_to : (low high n : ℕ) → Bool
up_to low high n = leb low n && ltb n high

-- whether a cell is one of the block of `size` pixels at (bx, by), cropped at the frame
unfoldable pub covers : (width height size bx by i : ℕ) → Bool
covers width height size bx by i =
    let x = i % (width / cell_side) in
    let y = i / (width / cell_side) in
    up_to bx (bx + size / cell_side) x && (up_to by (by + size / cell_side) y && ltb y (height / cell_side))

-- a result saved over a block's cells
unfoldable pub save_block : (width height size bx by : ℕ) (stats : MEStats) (g : Grid) → Grid
save_block width height size bx by stats g = save_where (covers width height size bx by) stats g
