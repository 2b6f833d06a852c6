-- A look at a file's header, so that a grid can be made ready for it.
use Rattle.std.specs.Prelude.{cond, List, ℕ, ltb, eqb, length, take, ◌≡◌, ◌*◌, Result, Ok, Err}
use Rattle.grid.specs.Grid.{Grid}
use Rattle.refusal.specs.Refusals.{refuse, ◌then◌}
use Rattle.refusal.specs.declared.kinds.Refusal.{Refusal}
use Rattle.refusal.specs.Kinds.{number_of}
use Rattle.records.specs.Numbers.{OfBytes}
use Rattle.records.specs.Forms.{plain_forms, header_size}
use Rattle.records.specs.Records.{most_file_cells, file_bytes}
use Rattle.gridfile.specs.declared.extent.Extent.{Extent}
use Rattle.gridfile.specs.declared.read.Peek.{Peek}
use Rattle.gridfile.specs.Reading.{Head, head_cells, start, header_shown, head_said, taken, read_refusal, read_answer}

-- the refusals of a header, with room for any that there is: 10, 12, and 11 where its bytes run out
unfoldable pub peek_refusal : List ℕ → ℕ
peek_refusal file =
    let last = taken most_file_cells start (take (header_size (header_shown file)) file) in
    last.code then refuse 11 (ltb 0 last.head.columns)

-- the refusal, columns and rows of cells, and how many bytes the whole file has: 0 in a refusal
unfoldable pub peek_of : (number : ℕ) (head : Head) → Peek
peek_of number head =
    record {
      code = number;
      columns = cond (eqb number 0) head.columns 0;
      rows = cond (eqb number 0) head.rows 0;
      bytes = cond (eqb number 0) (file_bytes head.forms (head_cells head)) 0;
    }

-- as a typed call answers it
abbrev pub peek_for : Result Extent Refusal → Peek
peek_for (Ok extent) = record { code = 0; columns = extent.columns; rows = extent.rows; bytes = file_bytes plain_forms (extent.columns * extent.rows) }
peek_for (Err refusal) = record { code = number_of refusal; columns = 0; rows = 0; bytes = 0 }

unfoldable pub peek_answer : List ℕ → Peek
peek_answer file = peek_of (peek_refusal file) (head_said (header_shown file) file)

-- of every accepted file a look tells the shape that reading gives, and its length
abbrev pub PeekTells : Type 0
PeekTells =
    (file : List ℕ) (g : Grid) → OfBytes file → read_refusal file g ≡ 0 → peek_answer file ≡ record { code = 0; columns = (read_answer file g).columns; rows = (read_answer file g).rows; bytes = length file }
