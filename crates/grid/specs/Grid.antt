-- The grid: W/4 columns and H/4 rows of cells (row, col, normalised SAD), row by row.
use Rattle.std.specs.Prelude.{ℕ, ◌+◌, ◌*◌, ◌/◌, ◌≤◌, min, List, ℤ, pos, length, get_or, set}
use Rattle.motion.specs.declared.vector.MotionVector.{MotionVector}
use Rattle.motion.specs.Limits.{cell_side}
use Rattle.grid.specs.declared.cells.MEStats.{MEStats}

-- the three buffers of a grid
pub record Grid : Type 0 where
  pub rows : List ℤ
  pub cols : List ℤ
  pub sads : List ℕ

abbrev pub grid_of : List ℤ → List ℤ → List ℕ → Grid
grid_of rows cols sads = record { rows = rows; cols = cols; sads = sads }

-- how many cells a frame has
unfoldable pub cells : ℕ → ℕ → ℕ
cells width height = (width / cell_side) * (height / cell_side)

-- row by row, W/4 cells each
unfoldable pub cell_at : (width bx by : ℕ) → ℕ
cell_at width bx by = by * (width / cell_side) + bx

-- the vector stored in a cell
unfoldable pub stored_at : List ℤ → List ℤ → ℕ → MotionVector
stored_at rows cols i = record { row = get_or rows i (pos 0); col = get_or cols i (pos 0) }

-- what a cell holds: a vector and a normalised SAD
unfoldable pub stats_at : Grid → ℕ → MEStats
stats_at g i = record { mv = stored_at g.rows g.cols i; normalized_sad = get_or g.sads i 0 }

-- one cell that holds something new
unfoldable pub with_cell : ℕ → MEStats → Grid → Grid
with_cell i c g = grid_of (set g.rows i c.mv.row) (set g.cols i c.mv.col) (set g.sads i c.normalized_sad)

-- no buffer is shorter than a frame's cells
pub record Held (width height : ℕ) (g : Grid) : Type 0 where
  pub rows : cells width height ≤ length g.rows
  pub cols : cells width height ≤ length g.cols
  pub sads : cells width height ≤ length g.sads

-- the cells that a lent grid has room for: its shortest buffer counts
unfoldable pub room : Grid → ℕ
room g = min (length g.rows) (min (length g.cols) (length g.sads))
