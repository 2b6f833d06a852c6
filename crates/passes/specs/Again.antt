-- The cells of a file that was checked, read again block by block.
use Rattle.std.specs.Prelude.{◌≡◌, Bool, true, ◌&&◌, List, ℕ, ◌+◌, ◌*◌, get_or, take}
use Rattle.ground.specs.Every.{all_below}
use Rattle.records.specs.Forms.{mark, cell_bytes}
use Rattle.gridfile.specs.Reading.{marked}
use Rattle.passes.specs.declared.again.Again.{Again}
use Rattle.passes.specs.Sums.{sum_over}

-- as many cells as are read before their lines are written
abbrev pub block_cells : ℕ
block_cells = 256

-- whether each of so many records starts with the mark
unfoldable pub all_marked : List ℕ → ℕ → Bool
all_marked block count =
    all_below count (λ i. marked mark 0 (get_or block (cell_bytes * i) 0) && marked mark 1 (get_or block (cell_bytes * i + 1) 0))

-- so many records are there, marked, and their bytes are in the sum
pub record Loaded (sum count : ℕ) (block : List ℕ) (r : Again) : Type 0 where
  pub marks : all_marked block count ≡ true
  pub bytes : r.sum ≡ sum_over sum (take (cell_bytes * count) block)
