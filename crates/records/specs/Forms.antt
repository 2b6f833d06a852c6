-- The forms that the records of a file can have. Another form is a case of each definition here.
use Rattle.std.specs.Prelude.{ℕ, List, [], ◌∷◌}

-- how the first record says columns and rows: a byte each
pub data HeaderForm : Type 0 where
  byte_sides : HeaderForm

-- what each later one holds of a cell: row, col and one SAD
pub data CellForm : Type 0 where
  one_sad : CellForm

-- a file's records are of one form each
pub record Forms : Type 0 where
  pub header : HeaderForm
  pub cell : CellForm

abbrev pub plain_forms : Forms
plain_forms = record { header = byte_sides; cell = one_sad }

-- every record starts with the two-byte mark 4C 47
abbrev pub mark : List ℕ
mark = 0x4C ∷ 0x47 ∷ []

abbrev pub header_mark : HeaderForm → List ℕ
header_mark byte_sides = mark

abbrev pub cell_mark : CellForm → List ℕ
cell_mark one_sad = mark

-- and has so many bytes
abbrev pub header_bytes : ℕ
header_bytes = 4

abbrev pub cell_bytes : ℕ
cell_bytes = 10

abbrev pub header_size : HeaderForm → ℕ
header_size byte_sides = header_bytes

abbrev pub cell_size : CellForm → ℕ
cell_size one_sad = cell_bytes

-- a header says at most so many columns, and so many rows
abbrev pub most_cells : ℕ
most_cells = 256

abbrev pub header_most : HeaderForm → ℕ
header_most byte_sides = most_cells
