-- Laws of a file that is accepted: it is the file of the grid that is read. Assumes nothing.
use mathlib.Core.Path.{◌≡◌, sym, ap, ap₂, subst, ◌∙◌}
use mathlib.Core.Logic.{⊎_elim}
use mathlib.Core.List.{List, ◌∷◌, ◌++◌}
use Prim.Native.Nat.{ℕ, zero, suc, ◌+◌, ◌*◌, ◌≤◌, ◌<◌}
use native.Mathlib.Nat.{eq-or-lt_of_le}
use native.Mathlib.Omega.{arith}
use lib.ListN.{length}
use Rattle.grid.specs.Grid.{Grid, stats_at, with_cell, room}
use Rattle.records.specs.Forms.{one_sad, mark}
use Rattle.records.specs.Records.{header_record, cell_record, cell_of, FitsCell}
use Rattle.records.specs.Numbers.{OfBytes}
use Rattle.records.proofs.NumberLaws.{bytes-front, bytes_back}
use Rattle.records.proofs.RecordLaws.{cell-fits, cell-again}
use Rattle.gridfile.specs.Writing.{cell_records, file_of}
use Rattle.gridfile.specs.Reading.{State, head_of, between, taken, kept, ended, read_refusal, read_grid}
use Rattle.gridfile.specs.Keeps.{FitsCells}
use Rattle.gridfile.proofs.EmittedLaws.{kept_append}
use Rattle.gridfile.proofs.TakenLaws.{taken-append, record_taken, record_kept}
use Rattle.gridfile.proofs.AcceptedLaws.{accepted-record, accepted-end}
use Rattle.gridfile.proofs.OpenedLaws.{Opened, accepted-header, opened_keeps}
use Rattle.gridfile.proofs.KeptLaws.{same-room, cell-lengths, cell-here, kept-below}
use Rattle.gridfile.proofs.FileLaws.{Shaped, read_grid_lem}

-- bytes that are the records of a grid's cells from k on
record Holds (k m : ℕ) (bytes : List ℕ) (g : Grid) : Type 0 where
  records : cell_records one_sad g k m ≡ bytes
  fits : (i : ℕ) → k ≤ i → i < k + m → FitsCell (stats_at g i)

module _ (space columns rows : ℕ) (wide : 0 < columns) where
  -- one record more at the front
  module _ (k : ℕ) (more : k < columns * rows) (eight tail : List ℕ) (full : length eight ≡ 8) where
    ends_on : ended (taken space (between (head_of columns rows) k) (mark ++ eight ++ tail)) ≡ ended (taken space (between (head_of columns rows) (suc k)) tail)
    ends_on =
        ap ended
        (taken-append space (between (head_of columns rows) k) (mark ++ eight) tail
        ∙ ap (λ (s : State). taken space s tail) (record_taken space columns rows k wide more eight full))

    keeps_on : (g : Grid) → kept space (between (head_of columns rows) k) (mark ++ eight ++ tail) g ≡ kept space (between (head_of columns rows) (suc k)) tail (with_cell k (cell_of one_sad (mark ++ eight)) g)
    keeps_on g =
        kept_append space (between (head_of columns rows) k) (mark ++ eight) tail g
        ∙ ap₂ (λ (s : State) (h : Grid). kept space s tail h) (record_taken space columns rows k wide more eight full) (record_kept space columns rows k wide more eight full g)

    holds_on : (m : ℕ) (g : Grid) → k < room g → OfBytes eight → Holds (suc k) m tail (kept space (between (head_of columns rows) (suc k)) tail (with_cell k (cell_of one_sad (mark ++ eight)) g)) → Holds k (suc m) (mark ++ eight ++ tail) (kept space (between (head_of columns rows) k) (mark ++ eight ++ tail) g)
    unfolding cell_records
    holds_on m g inside of_bytes rest =
        let cell = cell_of one_sad (mark ++ eight) in
        let last = kept space (between (head_of columns rows) (suc k)) tail (with_cell k cell g) in
        let here : stats_at last k ≡ cell = kept-below space (between (head_of columns rows) (suc k)) tail (with_cell k cell g) k wide (omega arith) ∙ cell-here k cell g inside in
        let fits : FitsCell (stats_at last k) = subst FitsCell (sym here) (cell-fits eight full of_bytes) in
        subst (Holds k (suc m) (mark ++ eight ++ tail)) (sym (keeps_on g))
        (record {
          records = ap₂ ◌++◌ (ap (cell_record one_sad) here ∙ cell-again eight full of_bytes) rest.records;
          fits = λ i low high.
              ⊎_elim (λ e. subst (λ (j : ℕ). FitsCell (stats_at last j)) e fits) (λ above. rest.fits i above (omega arith)) (eq-or-lt_of_le low);
        })

  accepted-cells : (m k : ℕ) → k + m ≡ columns * rows → (bytes : List ℕ) → OfBytes bytes → ended (taken space (between (head_of columns rows) k) bytes) ≡ 0 → (g : Grid) → columns * rows ≤ room g → Holds k m bytes (kept space (between (head_of columns rows) k) bytes g)
  unfolding cell_records
  accepted-cells zero k h bytes of_bytes e g long =
      record { records = sym (accepted-end space columns rows wide bytes (ap (λ (n : ℕ). ended (taken space (between (head_of columns rows) n) bytes)) (omega arith) ∙ e)); fits = λ i low high. absurd (omega arith) }
  accepted-cells (suc m) k h bytes of_bytes e g long =
      let more : k < columns * rows = omega arith in
      let one = accepted-record space columns rows k wide more bytes e in
      let eight = one.eight in
      let tail = one.tail in
      let whole : OfBytes (mark ++ eight ++ tail) = subst OfBytes one.parts of_bytes in
      let ends = sym (ends_on k more eight tail one.full) ∙ ap (λ (l : List ℕ). ended (taken space (between (head_of columns rows) k) l)) (sym one.parts) ∙ e in
      let cell = cell_of one_sad (mark ++ eight) in
      let rest = accepted-cells m (suc k) (omega arith) tail (bytes_back (mark ++ eight) tail whole) ends (with_cell k cell g) (omega (arith, same-room (cell-lengths k cell g))) in
      subst (λ (l : List ℕ). Holds k (suc m) l (kept space (between (head_of columns rows) k) l g)) (sym one.parts)
      (holds_on k more eight tail one.full m g (omega arith) (bytes-front eight tail (λ j. whole (suc (suc j)))) rest)

-- an accepted file is the file of the grid that is read
pub record ReadFile (file : List ℕ) (g : Grid) : Type 0 where
  pub columns : ℕ
  pub rows : ℕ
  pub shaped : Shaped (room g) columns rows
  pub across : columns ≤ 256
  pub down : rows ≤ 256
  pub bytes : file_of columns rows (read_grid file g) ≡ file
  pub fits : FitsCells (columns * rows) (read_grid file g)

module _ (file : List ℕ) (g : Grid) (of_bytes : OfBytes file) (done : read_refusal file g ≡ 0) (it : Opened (room g) file) where
  cells-end : ended (taken (room g) (between (head_of (it.c + 1) (it.d + 1)) 0) it.tail) ≡ 0
  unfolding read_refusal
  cells-end = sym (ap ended it.on) ∙ done

  opened_file : ReadFile file g
  unfolding file_of header_record
  opened_file =
      let columns = it.c + 1 in
      let rows = it.d + 1 in
      let whole : OfBytes (mark ++ it.c ∷ it.d ∷ it.tail) = subst OfBytes it.parts of_bytes in
      let last = accepted-cells (room g) columns rows (omega arith) (columns * rows) 0 (omega arith) it.tail (λ k. whole (suc (suc (suc (suc k))))) cells-end g it.fits in
      let holds = subst (Holds 0 (columns * rows) it.tail) (sym (read_grid_lem file g done ∙ opened_keeps it g)) last in
      record {
        columns = columns;
        rows = rows;
        shaped = record { wide = omega arith; high = omega arith; across = it.even_columns; down = it.even_rows; inside = it.fits };
        across = omega (arith, whole 2);
        down = omega (arith, whole 3);
        bytes = ap₂ (λ (x y : ℕ). mark ++ x ∷ y ∷ cell_records one_sad (read_grid file g) 0 (columns * rows)) (omega arith) (omega arith)
            ∙ ap (λ (l : List ℕ). mark ++ it.c ∷ it.d ∷ l) holds.records ∙ sym it.parts;
        fits = λ i below. holds.fits i (omega arith) (omega arith);
      }

pub read_file : (file : List ℕ) (g : Grid) → OfBytes file → read_refusal file g ≡ 0 → ReadFile file g
unfolding read_refusal
read_file file g of_bytes done = opened_file file g of_bytes done (accepted-header (room g) file done)
