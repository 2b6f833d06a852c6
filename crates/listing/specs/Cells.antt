-- The cells of a block: of a grid, or of a file's records.
use Rattle.std.specs.Prelude.{ℕ, zero, suc, ◌+◌, ◌*◌, List, [], ◌∷◌}
use Rattle.std.proofs.Math.Seq.{slice}
use Rattle.grid.specs.declared.cells.MEStats.{MEStats}
use Rattle.grid.specs.Grid.{Grid, stats_at}
use Rattle.records.specs.Forms.{one_sad, plain_forms, cell_bytes}
use Rattle.records.specs.Records.{cell_of, file_bytes}

-- of so many places from one on, the cell of each
unfoldable pub cells_from : (cell : ℕ → MEStats) (i n : ℕ) → List MEStats
cells_from cell i zero = []
cells_from cell i (suc n) = cell i ∷ cells_from cell (suc i) n

-- a grid's cells
abbrev pub grid_cells : Grid → (i n : ℕ) → List MEStats
grid_cells g = cells_from (stats_at g)

-- the cell of a record, in bytes where records stand one behind the other
unfoldable pub record_at : List ℕ → ℕ → MEStats
record_at bytes k = cell_of one_sad (slice (cell_bytes * k) (cell_bytes * k + cell_bytes) bytes)

-- the cells of the first n records
abbrev pub record_cells : (bytes : List ℕ) (n : ℕ) → List MEStats
record_cells bytes n = cells_from (record_at bytes) 0 n

-- the cells of n records of a file, those behind its header and i cells
unfoldable pub file_cells : (file : List ℕ) (i n : ℕ) → List MEStats
file_cells file i n = record_cells (slice (file_bytes plain_forms i) (file_bytes plain_forms (i + n)) file) n

-- how many cells blocks of such lengths have
unfoldable pub total : List ℕ → ℕ
total [] = 0
total (n ∷ lengths) = n + total lengths
