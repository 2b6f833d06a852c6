-- Laws of a file's cells as they are read one by one: what is left to be read stays what the file gives. Assumes nothing.
use mathlib.Core.Path.{◌≡◌, refl, sym, ap, ap₂, ◌∙◌}
use mathlib.Core.List.{List, ◌++◌}
use Prim.Native.Nat.{ℕ, suc, ◌+◌, ◌*◌, ◌≤◌, ◌<◌}
use native.Mathlib.Omega.{arith}
use lib.ListN.{length, take, drop, length-append, length-drop}
use lib.Seq.{slice, take_at, drop_at, drop-drop}
use Rattle.ground.proofs.ListLaws.{take-drop}
use Rattle.grid.specs.Grid.{Grid, with_cell}
use Rattle.records.specs.Forms.{one_sad, plain_forms, mark, header_bytes}
use Rattle.records.specs.Records.{cell_of, file_bytes}
use Rattle.gridfile.specs.Reading.{State, head_of, between, taken, kept, ended}
use Rattle.gridfile.proofs.EmittedLaws.{kept_append, kept-none}
use Rattle.gridfile.proofs.TakenLaws.{taken-append, record_taken, record_kept}
use Rattle.gridfile.proofs.AcceptedLaws.{Splits, accepted-record, accepted-end}
use Rattle.gridfile.proofs.PlaceLaws.{next_place}
use Rattle.gridfile.proofs.KeptLaws.{SameLengths, as_long, then_long, cell-lengths}

-- from cell i on nothing is wrong, and the grid so far ends as the lent one does from the first cell on
pub record Left (file : List ℕ) (columns rows : ℕ) (lent : Grid) (i : ℕ) (g : Grid) : Type 0 where
  pub few : i ≤ columns * rows
  pub ok : ended (taken 0 (between (head_of columns rows) i) (drop (file_bytes plain_forms i) file)) ≡ 0
  pub ends : kept 0 (between (head_of columns rows) i) (drop (file_bytes plain_forms i) file) g ≡ kept 0 (between (head_of columns rows) 0) (drop header_bytes file) lent
  pub long : SameLengths g lent

module _ (file : List ℕ) (columns rows : ℕ) (wide : 0 < columns) (lent : Grid) where
  pub left-all : ended (taken 0 (between (head_of columns rows) 0) (drop header_bytes file)) ≡ 0 → Left file columns rows lent 0 lent
  unfolding file_bytes
  left-all e = record { few = omega arith; ok = e; ends = refl; long = as_long lent }

  -- the record of a cell that is left
  module _ (i : ℕ) (g : Grid) (more : i < columns * rows) (l : Left file columns rows lent i g) where
    split : Splits (drop (file_bytes plain_forms i) file)
    split = accepted-record 0 columns rows i wide more (drop (file_bytes plain_forms i) file) l.ok

    ten : length (mark ++ split.eight) ≡ 10
    ten = omega (arith, split.full)

    pub left_there : file_bytes plain_forms i + 10 ≤ length file
    left_there =
        omega (arith, ten, length-drop (file_bytes plain_forms i) file, ap length split.parts, length-append (mark ++ split.eight) split.tail)

    bytes_of : slice (file_bytes plain_forms i) (file_bytes plain_forms i + 10) file ≡ mark ++ split.eight
    bytes_of = sym (take-drop (file_bytes plain_forms i) 10 file) ∙ ap (take 10) split.parts ∙ take_at (mark ++ split.eight) split.tail 10 ten

    tail_of : split.tail ≡ drop (file_bytes plain_forms (suc i)) file
    tail_of =
        sym (drop_at (mark ++ split.eight) split.tail 10 ten) ∙ ap (drop 10) (sym split.parts) ∙ drop-drop 10 (file_bytes plain_forms i) file
        ∙ ap (λ (n : ℕ). drop n file) (sym (next_place i))

    taken-on : taken 0 (between (head_of columns rows) i) (drop (file_bytes plain_forms i) file) ≡ taken 0 (between (head_of columns rows) (suc i)) (drop (file_bytes plain_forms (suc i)) file)
    taken-on =
        ap (taken 0 (between (head_of columns rows) i)) split.parts ∙ taken-append 0 (between (head_of columns rows) i) (mark ++ split.eight) split.tail
        ∙ ap₂ (λ (s : State) (bytes : List ℕ). taken 0 s bytes) (record_taken 0 columns rows i wide more split.eight split.full) tail_of

    kept_on : kept 0 (between (head_of columns rows) i) (drop (file_bytes plain_forms i) file) g ≡ kept 0 (between (head_of columns rows) (suc i)) (drop (file_bytes plain_forms (suc i)) file) (with_cell i (cell_of one_sad (slice (file_bytes plain_forms i) (file_bytes plain_forms i + 10) file)) g)
    kept_on =
        ap (λ (bytes : List ℕ). kept 0 (between (head_of columns rows) i) bytes g) split.parts ∙ kept_append 0 (between (head_of columns rows) i) (mark ++ split.eight) split.tail g
        ∙ ap₂ (λ (s : State) (bytes : List ℕ). kept 0 s bytes (kept 0 (between (head_of columns rows) i) (mark ++ split.eight) g)) (record_taken 0 columns rows i wide more split.eight split.full) tail_of
        ∙ ap (kept 0 (between (head_of columns rows) (suc i)) (drop (file_bytes plain_forms (suc i)) file)) (record_kept 0 columns rows i wide more split.eight split.full g ∙ ap (λ (bytes : List ℕ). with_cell i (cell_of one_sad bytes) g) (sym bytes_of))

    pub left-next : Left file columns rows lent (suc i) (with_cell i (cell_of one_sad (slice (file_bytes plain_forms i) (file_bytes plain_forms i + 10) file)) g)
    left-next =
        record {
          few = more;
          ok = ap ended (sym taken-on) ∙ l.ok;
          ends = sym kept_on ∙ l.ends;
          long = then_long (cell-lengths i (cell_of one_sad (slice (file_bytes plain_forms i) (file_bytes plain_forms i + 10) file)) g) l.long;
        }

  -- no cell is left
  pub left-none : (g : Grid) → Left file columns rows lent (columns * rows) g → g ≡ kept 0 (between (head_of columns rows) 0) (drop header_bytes file) lent
  left-none g l =
      sym (kept-none 0 (between (head_of columns rows) (columns * rows)) g)
      ∙ sym (ap (λ (bytes : List ℕ). kept 0 (between (head_of columns rows) (columns * rows)) bytes g) (accepted-end 0 columns rows wide (drop (file_bytes plain_forms (columns * rows)) file) l.ok))
      ∙ l.ends
