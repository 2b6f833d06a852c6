-- The state between two calls, as a record of 40 bytes.
use Rattle.std.specs.Prelude.{◌≡◌, ℕ, ◌-◌, min, Bool, ◌&&◌, cond, List, ◌++◌, [], leb, eqb, length, take, replicate}
use Rattle.records.specs.Forms.{Forms, plain_forms, header_size, cell_size, header_most}
use Rattle.records.specs.Records.{most_file_cells}
use Rattle.gridfile.specs.Reading.{Head, head_of, State, begun, refused_at, taken}
use Rattle.held.specs.declared.state.Reader.{Reader}

-- a state with no record begun
abbrev pub plain : (code columns rows cells : ℕ) → State
plain code columns rows cells = record { code = code; head = head_of columns rows; cells = cells; part = [] }

-- how many bytes of a record there is place for
abbrev pub part_bytes : ℕ
part_bytes = 16

-- the forms as a number, and back
abbrev pub forms_number : Forms → ℕ
forms_number forms = 0

abbrev pub forms_of : ℕ → Forms
forms_of number = plain_forms

-- what is not in use holds 0, so that equal states are equal bytes
unfoldable pub reader_of : State → Reader
reader_of s =
    record {
      code = s.code;
      columns = s.head.columns;
      rows = s.head.rows;
      cells = s.cells;
      held = length s.part;
      part = s.part ++ replicate (part_bytes - length s.part) 0;
      spare = forms_number s.head.forms;
    }

-- how many bytes the record has that comes next: the header's before it ended, then a cell's
unfoldable pub record_bytes : (columns : ℕ) (forms : Forms) → ℕ
record_bytes columns forms = cond (eqb columns 0) (header_size forms.header) (cell_size forms.cell)

-- columns and rows as a header can say them
unfoldable pub shaped : Head → Bool
shaped head =
    let most = header_most head.forms.header in
    leb head.columns most && leb head.rows most

-- the state that a record stands for. Of one that no call gave back: more bytes than a record can have begun count as the most
-- that it can, and columns or rows that no header says are refused with 12
unfoldable pub state_of : Reader → State
state_of r =
    let forms = forms_of r.spare in
    let head : Head = record { columns = r.columns; rows = r.rows; forms = forms } in
    let numbers : State = record { code = r.code; head = head; cells = r.cells; part = [] } in
    cond (eqb r.code 0)
    (cond (shaped head) (begun numbers (take (min r.held (record_bytes r.columns forms - 1)) r.part)) (refused_at numbers 12))
    numbers

-- a reader in which nothing stands but what is in use
abbrev pub Settled : Reader → Type 0
Settled r = reader_of (state_of r) ≡ r

-- the state after a fragment of a file that is only looked at, with room for any grid that a header says
unfoldable pub checked : Reader → List ℕ → State
checked r fragment = taken most_file_cells (state_of r) fragment
