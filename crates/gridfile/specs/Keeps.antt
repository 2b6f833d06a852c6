-- What writing and reading do together.
use Rattle.std.specs.Prelude.{◌≡◌, List, [], ◌∷◌, ◌++◌, ℕ, zero, suc, ◌*◌, ◌/◌, ◌≤◌, ◌<◌, length, take, drop}
use Rattle.motion.specs.Limits.{cell_side}
use Rattle.motion.specs.Frame.{Side}
use Rattle.grid.specs.Grid.{Grid, Held, cells, room, stats_at}
use Rattle.records.specs.Numbers.{OfBytes}
use Rattle.records.specs.Records.{FitsCell}
use Rattle.gridfile.specs.Writing.{file_of, write_refusal, written_of, write_answer, written_file}
use Rattle.gridfile.specs.Reading.{start, Placed, emitted, read_refusal, shape_of, read_answer, read_grid}

-- the numbers of a grid's first n cells, as its buffers hold them
abbrev pub FitsCells : ℕ → Grid → Type 0
FitsCells n g = (i : ℕ) → i < n → FitsCell (stats_at g i)

-- two grids with the same first n cells, and with the same cells past them
abbrev pub SameCells : ℕ → Grid → Grid → Type 0
SameCells n g h = (i : ℕ) → i < n → stats_at g i ≡ stats_at h i

abbrev pub SamePast : ℕ → Grid → Grid → Type 0
SamePast n g h = (i : ℕ) → n ≤ i → stats_at g i ≡ stats_at h i

-- the bytes that a write without a refusal leaves
abbrev pub written : (width height : ℕ) (g : Grid) (file : List ℕ) → List ℕ
written width height g file = take (write_answer width height g file).bytes (written_file width height g file)

-- writing then reading gives the same grid, with 0, and the cells past it stay
pub record ReadsBack (width height : ℕ) (g : Grid) (file : List ℕ) (lent : Grid) : Type 0 where
  pub answer : read_answer file lent ≡ shape_of 0 (width / cell_side) (height / cell_side)
  pub inside : SameCells (cells width height) (read_grid file lent) g
  pub past : SamePast (cells width height) (read_grid file lent) lent

abbrev pub WriteThenRead : Type 0
WriteThenRead =
    (width height : ℕ) (g : Grid) (file : List ℕ) (lent : Grid) → write_refusal width height (room g) (length file) ≡ 0 → FitsCells (cells width height) g → Held width height lent → ReadsBack width height g (written width height g file) lent

-- reading with 0 then writing gives the same bytes, with 0, and the bytes past them stay
pub record WritesBack (width height : ℕ) (g : Grid) (file lent : List ℕ) : Type 0 where
  pub answer : write_answer width height g lent ≡ written_of 0 (length file)
  pub bytes : written_file width height g lent ≡ file ++ drop (length file) lent

abbrev pub ReadThenWrite : Type 0
ReadThenWrite =
    (file : List ℕ) (g : Grid) (lent : List ℕ) → OfBytes file → read_refusal file g ≡ 0 → length file ≤ length lent → WritesBack (cell_side * (read_answer file g).columns) (cell_side * (read_answer file g).rows) (read_grid file g) file lent

-- a file is that of a grid of columns by rows cells, as a frame has one
pub record FileOf (file : List ℕ) (columns rows : ℕ) (g : Grid) : Type 0 where
  pub wide : Side (cell_side * columns)
  pub high : Side (cell_side * rows)
  pub held : Held (cell_side * columns) (cell_side * rows) g
  pub fits : FitsCells (columns * rows) g
  pub bytes : file_of columns rows g ≡ file

-- every accepted file is the file of exactly one grid: of the one that is read, and of no other
pub record OneGrid (file : List ℕ) (columns rows : ℕ) (g : Grid) : Type 0 where
  pub one : FileOf file columns rows g
  pub only : (columns' rows' : ℕ) (h : Grid) → FileOf file columns' rows' h → (columns' ≡ columns) × (rows' ≡ rows) × SameCells (columns * rows) h g

abbrev pub Accepted : Type 0
Accepted =
    (file : List ℕ) (g : Grid) → OfBytes file → read_refusal file g ≡ 0 → OneGrid file (read_answer file g).columns (read_answer file g).rows (read_grid file g)

-- so many cells of a grid from one on, each with its place
unfoldable pub placed : Grid → (i n : ℕ) → List Placed
placed g i zero = []
placed g i (suc n) = record { place = i; cell = stats_at g i } ∷ placed g (suc i) n

-- an accepted file hands out the cells of the grid that is read, each once, in raster order
abbrev pub HandsOut : Type 0
HandsOut =
    (file : List ℕ) (g : Grid) → OfBytes file → read_refusal file g ≡ 0 → emitted (room g) start file ≡ placed (read_grid file g) 0 ((read_answer file g).columns * (read_answer file g).rows)
