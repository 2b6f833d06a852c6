-- Writing: the list of bytes that a grid's file is, and what is refused.
use Rattle.std.specs.Prelude.{ℕ, zero, suc, ◌*◌, ◌/◌, ◌&&◌, cond, List, [], ◌++◌, leb, eqb, length, drop, Result, Ok, Err}
use Rattle.motion.specs.Limits.{cell_side}
use Rattle.grid.specs.Grid.{Grid, cells, stats_at, room}
use Rattle.refusal.specs.Refusals.{refuse, ◌then◌, side_ok, grid_ok}
use Rattle.refusal.specs.declared.kinds.Refusal.{Refusal}
use Rattle.refusal.specs.Kinds.{number_of}
use Rattle.records.specs.Forms.{CellForm, Forms, plain_forms}
use Rattle.records.specs.Records.{header_record, cell_record, file_bytes}
use Rattle.gridfile.specs.declared.write.Written.{Written}

-- the records of so many cells, from one on, in raster order
unfoldable pub cell_records : CellForm → Grid → (i n : ℕ) → List ℕ
cell_records form g i zero = []
cell_records form g i (suc n) = cell_record form (stats_at g i) ++ cell_records form g (suc i) n

-- the forms in which a grid of columns by rows cells is written
abbrev pub forms_for : (columns rows : ℕ) → Forms
forms_for columns rows = plain_forms

-- the file of such a grid
unfoldable pub file_of : ℕ → ℕ → Grid → List ℕ
file_of columns rows g =
    let forms = forms_for columns rows in
    header_record forms.header columns rows ++ cell_records forms.cell g 0 (columns * rows)

-- and how many bytes that of a frame's grid has
abbrev pub bytes_for : (width height : ℕ) → ℕ
bytes_for width height = file_bytes (forms_for (width / cell_side) (height / cell_side)) (cells width height)

-- writing refuses with 1, 5, then 13: the lent bytes are too few; a grid with room for n cells, so many bytes lent
unfoldable pub write_refusal : (width height n bytes : ℕ) → ℕ
write_refusal width height n bytes =
    refuse 1 (side_ok width && side_ok height)
    then refuse 5 (grid_ok width height n)
    then refuse 13 (leb (bytes_for width height) bytes)

-- the refusal, and how many bytes the file has: 0 in a refusal
unfoldable pub written_of : ℕ → ℕ → Written
written_of number bytes = record { code = number; bytes = cond (eqb number 0) bytes 0 }

-- as a typed call answers it
abbrev pub written_for : Result ℕ Refusal → Written
written_for (Ok bytes) = record { code = 0; bytes = bytes }
written_for (Err refusal) = record { code = number_of refusal; bytes = 0 }

unfoldable pub write_answer : (width height : ℕ) (g : Grid) (file : List ℕ) → Written
write_answer width height g file = written_of (write_refusal width height (room g) (length file)) (bytes_for width height)

-- a refused write leaves the lent bytes; bytes past the file aren't written
unfoldable pub written_file : (width height : ℕ) (g : Grid) (file : List ℕ) → List ℕ
written_file width height g file =
    cond (eqb (write_refusal width height (room g) (length file)) 0)
    (file_of (width / cell_side) (height / cell_side) g ++ drop (bytes_for width height) file) file
