-- A look at an accepted file tells its shape and its length. Assumes nothing.
use mathlib.Core.Path.{◌≡◌, refl, sym, ap, ap₂, ◌∙◌}
use mathlib.Core.List.{List, []}
use Prim.Native.Nat.{ℕ, ◌+◌, ◌*◌, ◌≤◌}
use native.Mathlib.Nat.{mul-le-mul}
use native.Mathlib.Omega.{arith}
use lib.ListN.{length, get_or}
use Rattle.grid.specs.Grid.{Grid, room}
use Rattle.records.specs.Forms.{plain_forms, most_cells}
use Rattle.records.specs.Records.{header_record, file_bytes}
use Rattle.gridfile.specs.Reading.{head_of, marked, taken, read_refusal, shape_of, read_grid}
use Rattle.gridfile.specs.Writing.{file_of}
use Rattle.gridfile.specs.Peek.{peek_refusal, peek_of, peek_answer, PeekTells}
use Rattle.gridfile.proofs.HeaderLaws.{state_number, head_number, fourth_taken, number-ended, none_wrong}
use Rattle.gridfile.proofs.OpenedLaws.{Opened, accepted-header}
use Rattle.gridfile.proofs.WriteLaws.{length-file}
use Rattle.gridfile.proofs.ReadLaws.{ReadFile, read_file}
use Rattle.gridfile.proofs.Keeps.{same_answer}

-- nothing is wrong with its header, whatever room there is for its cells
head-fine : {space : ℕ} (file : List ℕ) → Opened space file → (other : ℕ) → (get_or file 2 0 + 1) * (get_or file 3 0 + 1) ≤ other → head_number other file ≡ 0
unfolding marked taken
head-fine file it other fits =
    ap (head_number other) it.parts ∙ ap state_number (fourth_taken other 0x4C refl 0x47 refl it.c it.d [])
    ∙ number-ended other it.c it.d
    ∙ none_wrong other (it.c + 1) (it.d + 1) it.even_columns it.even_rows (omega (arith, ap (λ (l : List ℕ). (get_or l 2 0 + 1) * (get_or l 3 0 + 1)) it.parts))

-- the header's bytes of an accepted file are its columns and rows less one
module _ (file : List ℕ) (g : Grid) (it : ReadFile file g) where
  columns-byte : get_or file 2 0 + 1 ≡ it.columns
  unfolding file_of header_record
  columns-byte = omega (arith, ap (λ (l : List ℕ). get_or l 2 0) it.bytes, it.shaped.wide)

  rows-byte : get_or file 3 0 + 1 ≡ it.rows
  unfolding file_of header_record
  rows-byte = omega (arith, ap (λ (l : List ℕ). get_or l 3 0) it.bytes, it.shaped.high)

  all_bytes : file_bytes plain_forms (it.columns * it.rows) ≡ length file
  all_bytes = sym (length-file it.columns it.rows (read_grid file g)) ∙ ap length it.bytes

pub peek_tells : PeekTells
unfolding peek_answer peek_refusal peek_of shape_of read_refusal
peek_tells file g of_bytes done =
    let it = read_file file g of_bytes done in
    let few : it.columns * it.rows ≤ most_cells * most_cells = mul-le-mul {n₁ = it.columns} {m₁ = it.rows} it.across it.down in
    let cells : (get_or file 2 0 + 1) * (get_or file 3 0 + 1) ≡ it.columns * it.rows = ap₂ ◌*◌ (columns-byte file g it) (rows-byte file g it) in
    let fine = head-fine file (accepted-header (room g) file done) (most_cells * most_cells) (omega arith) in
    let same = same_answer file g it in
    (λ i. peek_of (fine i) (head_of (columns-byte file g it i) (rows-byte file g it i)))
    ∙ λ i. record { code = 0; columns = (sym same i).columns; rows = (sym same i).rows; bytes = all_bytes file g it i }
