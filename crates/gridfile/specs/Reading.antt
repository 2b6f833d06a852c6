-- Reading: a fold over the bytes, one a turn, from the front; what is refused, and the grid that it leaves.
use Rattle.std.specs.Prelude.{ℕ, suc, ◌+◌, ◌*◌, ◌%◌, Bool, ◌&&◌, ◌||◌, cond, List, [], ◌∷◌, ◌++◌, leb, ltb, eqb, length, get_or, Result, Ok, Err}
use Rattle.grid.specs.declared.cells.MEStats.{MEStats}
use Rattle.grid.specs.Grid.{Grid, with_cell, room}
use Rattle.refusal.specs.Refusals.{refuse, ◌then◌}
use Rattle.refusal.specs.declared.kinds.Refusal.{Refusal}
use Rattle.refusal.specs.Kinds.{number_of}
use Rattle.records.specs.Forms.{HeaderForm, byte_sides, CellForm, Forms, plain_forms, header_mark, cell_mark, header_size, cell_size}
use Rattle.records.specs.Records.{cell_of}
use Rattle.gridfile.specs.declared.extent.Extent.{Extent}
use Rattle.gridfile.specs.declared.read.Shape.{Shape}

-- what the header said, 0 before it ended, and the forms of the file's records
pub record Head : Type 0 where
  pub columns : ℕ
  pub rows : ℕ
  pub forms : Forms

abbrev pub head_of : (columns rows : ℕ) → Head
head_of columns rows = record { columns = columns; rows = rows; forms = plain_forms }

abbrev pub head_cells : Head → ℕ
head_cells head = head.columns * head.rows

-- what is known after some bytes: the refusal, 0 for none; what the header said; how many cells are whole; the bytes so far of
-- the record that comes next
pub record State : Type 0 where
  pub code : ℕ
  pub head : Head
  pub cells : ℕ
  pub part : List ℕ

-- between two records, with so many cells whole
abbrev pub between : (head : Head) (cells : ℕ) → State
between head cells = record { code = 0; head = head; cells = cells; part = [] }

abbrev pub start : State
start = between (head_of 0 0) 0

-- a refusal leaves nothing of a record begun
unfoldable pub refused_at : State → ℕ → State
refused_at s number = record { code = number; head = s.head; cells = s.cells; part = [] }

-- one byte more of the record that comes next
unfoldable pub begun : State → List ℕ → State
begun s bytes = record { code = s.code; head = s.head; cells = s.cells; part = bytes }

-- the form of a header that starts with these bytes, and of a cell's record, which is its file's
abbrev pub header_shown : List ℕ → HeaderForm
header_shown bytes = byte_sides

abbrev pub cell_shown : State → List ℕ → CellForm
cell_shown s bytes = s.head.forms.cell

-- what a whole header says: columns−1 and rows−1 stand behind the mark
abbrev pub head_said : HeaderForm → List ℕ → Head
head_said byte_sides bytes = head_of (get_or bytes 2 0 + 1) (get_or bytes 3 0 + 1)

-- 10: a byte that stands where the mark has another
unfoldable pub marked : (mark : List ℕ) (place byte : ℕ) → Bool
marked mark place byte = leb (length mark) place || eqb byte (get_or mark place 0)

-- at the header's end: 12 odd column or row count, then 13 a lent buffer too short
unfoldable pub header_end : (room : ℕ) (head : Head) → State
header_end room head =
    record {
      code = refuse 12 (eqb (head.columns % 2) 0 && eqb (head.rows % 2) 0) then refuse 13 (leb (head_cells head) room);
      head = head;
      cells = 0;
      part = [];
    }

-- a record whose last byte has come, the header's
unfoldable pub header_done : ℕ → List ℕ → State
header_done room bytes = header_end room (head_said (header_shown bytes) bytes)

-- and a cell's, whose form the file then has
unfoldable pub cell_done : State → CellForm → State
cell_done s form =
    record {
      code = s.code;
      head = record { columns = s.head.columns; rows = s.head.rows; forms = record { header = s.head.forms.header; cell = form } };
      cells = suc s.cells;
      part = [];
    }

-- a byte of a record with this mark and so many bytes: a wrong mark byte gives 10 where it stands
unfoldable pub record_byte : (mark : List ℕ) (size : ℕ) (done s : State) (byte : ℕ) → State
record_byte mark size done s byte =
    cond (marked mark (length s.part) byte)
    (cond (ltb (suc (length s.part)) size) (begun s (s.part ++ byte ∷ [])) done) (refused_at s 10)

-- a byte of the header, and of a cell's record
unfoldable pub header_byte : ℕ → State → ℕ → State
header_byte room s byte =
    let bytes = s.part ++ byte ∷ [] in
    let form = header_shown bytes in
    record_byte (header_mark form) (header_size form) (header_done room bytes) s byte

unfoldable pub cell_byte : State → ℕ → State
cell_byte s byte =
    let form = cell_shown s (s.part ++ byte ∷ []) in
    record_byte (cell_mark form) (cell_size form) (cell_done s form) s byte

-- the next byte: a refusal stays; the header comes first, then the cells; 11 for a byte left over
unfoldable pub next : ℕ → State → ℕ → State
next room s byte =
    cond (eqb s.code 0)
    (cond (eqb s.head.columns 0) (header_byte room s byte)
    (cond (ltb s.cells (head_cells s.head)) (cell_byte s byte) (refused_at s 11))) s

unfoldable pub taken : ℕ → State → List ℕ → State
taken room s [] = s
taken room s (byte ∷ bytes) = taken room (next room s byte) bytes

-- a cell, and its place in raster order
pub record Placed : Type 0 where
  pub place : ℕ
  pub cell : MEStats

-- a byte hands out the cell that it completes
unfoldable pub handed : (room : ℕ) (s : State) (byte : ℕ) → List Placed
handed room s byte =
    let bytes = s.part ++ byte ∷ [] in
    cond (ltb s.cells (next room s byte).cells) (record { place = s.cells; cell = cell_of (cell_shown s bytes) bytes } ∷ []) []

-- all the cells that bytes hand out, wherever they go
unfoldable pub emitted : (room : ℕ) (s : State) (bytes : List ℕ) → List Placed
emitted room s [] = []
emitted room s (byte ∷ bytes) = handed room s byte ++ emitted room (next room s byte) bytes

-- in a grid each goes to its place
unfoldable pub with_placed : List Placed → Grid → Grid
with_placed [] g = g
with_placed (p ∷ ps) g = with_placed ps (with_cell p.place p.cell g)

-- a grid that a byte has come for, and one that bytes have
unfoldable pub keep : (room : ℕ) (s : State) (byte : ℕ) (g : Grid) → Grid
keep room s byte g = with_placed (handed room s byte) g

unfoldable pub kept : (room : ℕ) (s : State) (bytes : List ℕ) (g : Grid) → Grid
kept room s bytes g = with_placed (emitted room s bytes) g

-- 11 where bytes run out: before the header ended, or before its last cell
unfoldable pub whole : State → Bool
whole s = ltb 0 s.head.columns && leb (head_cells s.head) s.cells

unfoldable pub ended : State → ℕ
ended s = s.code then refuse 11 (whole s)

unfoldable pub read_refusal : List ℕ → Grid → ℕ
read_refusal file g = ended (taken (room g) start file)

-- the refusal, and columns and rows of cells: 0 in a refusal
unfoldable pub shape_of : (number columns rows : ℕ) → Shape
shape_of number columns rows =
    record { code = number; columns = cond (eqb number 0) columns 0; rows = cond (eqb number 0) rows 0 }

-- as a typed call answers it
abbrev pub shape_for : Result Extent Refusal → Shape
shape_for (Ok extent) = record { code = 0; columns = extent.columns; rows = extent.rows }
shape_for (Err refusal) = record { code = number_of refusal; columns = 0; rows = 0 }

unfoldable pub read_answer : List ℕ → Grid → Shape
read_answer file g =
    let last = taken (room g) start file in
    shape_of (read_refusal file g) last.head.columns last.head.rows

-- a refused read leaves the lent grid as it stood
unfoldable pub read_grid : List ℕ → Grid → Grid
read_grid file g = cond (eqb (read_refusal file g) 0) (kept (room g) start file g) g
