-- Laws of a grid's file that is read: its header, then each cell in its place. Assumes nothing.
use mathlib.Core.Path.{◌≡◌, refl, ap, ap₂, subst, ◌∙◌}
use mathlib.Core.Bool.{cond}
use mathlib.Core.Logic.{⊎_elim}
use mathlib.Core.List.{List, ◌∷◌, ◌++◌}
use Prim.Native.Nat.{ℕ, zero, suc, ◌+◌, ◌-◌, ◌*◌, ◌%◌, ◌≤◌, ◌<◌}
use native.Mathlib.Nat.{eq-or-lt_of_le}
use native.Mathlib.Omega.{arith}
use borrow.Author.Tests.{le-leb, eq-eqb}
use lib.Dec.{eqb}
use lib.ListN.{length, drop}
use Rattle.grid.specs.declared.cells.MEStats.{MEStats}
use Rattle.grid.specs.Grid.{Grid, stats_at, with_cell, room}
use Rattle.refusal.specs.Refusals.{refuse, ◌then◌}
use Rattle.records.specs.Forms.{one_sad}
use Rattle.records.specs.Records.{header_record, cell_record, FitsCell}
use Rattle.records.proofs.RecordLaws.{length-cell, cell-back}
use Rattle.gridfile.specs.Writing.{cell_records, file_of}
use Rattle.gridfile.specs.Reading.{State, head_of, between, start, marked, header_end, taken, Placed, emitted, kept, ended, read_refusal, shape_of, read_answer, read_grid}
use Rattle.gridfile.specs.Keeps.{FitsCells, SameCells, SamePast, placed}
use Rattle.gridfile.proofs.EmittedLaws.{emitted-append, kept_append, placed_same}
use Rattle.gridfile.proofs.TakenLaws.{taken-append, record_taken, record_emitted, record_kept}
use Rattle.gridfile.proofs.AcceptedLaws.{all_there}
use Rattle.gridfile.proofs.HeaderLaws.{fourth_taken, header-emitted}
use Rattle.gridfile.proofs.KeptLaws.{same-room, cell-lengths, cell-here, kept-below, kept-past}

-- columns and rows of cells that a header may have
pub record Shaped (space columns rows : ℕ) : Type 0 where
  pub wide : 0 < columns
  pub high : 0 < rows
  pub across : columns % 2 ≡ 0
  pub down : rows % 2 ≡ 0
  pub inside : columns * rows ≤ space

-- nothing is wrong with such a header
shaped-opens : {space columns rows : ℕ} → Shaped space columns rows → header_end space (head_of columns rows) ≡ between (head_of columns rows) 0
unfolding header_end refuse ◌then◌
shaped-opens {space} {columns} {rows} h =
    rw (eq-eqb (columns % 2) 0 h.across, eq-eqb (rows % 2) 0 h.down, le-leb (columns * rows) space h.inside)

-- the records of a grid's cells, from cell k on
module _ (space columns rows : ℕ) (wide : 0 < columns) (g : Grid) where
  module _ (k : ℕ) (more : k < columns * rows) where
    one-taken : taken space (between (head_of columns rows) k) (cell_record one_sad (stats_at g k)) ≡ between (head_of columns rows) (suc k)
    unfolding cell_record
    one-taken = record_taken space columns rows k wide more (drop 2 (cell_record one_sad (stats_at g k))) (omega (arith, length-cell (stats_at g k)))

    one_kept : FitsCell (stats_at g k) → (lent : Grid) → kept space (between (head_of columns rows) k) (cell_record one_sad (stats_at g k)) lent ≡ with_cell k (stats_at g k) lent
    unfolding cell_record
    one_kept fits lent =
        record_kept space columns rows k wide more (drop 2 (cell_record one_sad (stats_at g k))) (omega (arith, length-cell (stats_at g k))) lent
        ∙ ap (λ (c : MEStats). with_cell k c lent) (cell-back (stats_at g k) fits)

    rest_kept : (m : ℕ) → FitsCell (stats_at g k) → (lent : Grid) → kept space (between (head_of columns rows) k) (cell_records one_sad g k (suc m)) lent ≡ kept space (between (head_of columns rows) (suc k)) (cell_records one_sad g (suc k) m) (with_cell k (stats_at g k) lent)
    unfolding cell_records
    rest_kept m fits lent =
        kept_append space (between (head_of columns rows) k) (cell_record one_sad (stats_at g k)) (cell_records one_sad g (suc k) m) lent
        ∙ ap₂ (λ (s : State) (h : Grid). kept space s (cell_records one_sad g (suc k) m) h) one-taken (one_kept fits lent)

  pub cells-taken : (m k : ℕ) → k + m ≤ columns * rows → taken space (between (head_of columns rows) k) (cell_records one_sad g k m) ≡ between (head_of columns rows) (k + m)
  unfolding cell_records taken
  cells-taken zero k h = ap (between (head_of columns rows)) (omega arith)
  cells-taken (suc m) k h =
      taken-append space (between (head_of columns rows) k) (cell_record one_sad (stats_at g k)) (cell_records one_sad g (suc k) m)
      ∙ ap (λ (s : State). taken space s (cell_records one_sad g (suc k) m)) (one-taken k (omega arith))
      ∙ cells-taken m (suc k) (omega arith) ∙ ap (between (head_of columns rows)) (omega arith)

  -- each hands out its cell
  cells-emitted : (m k : ℕ) → k + m ≤ columns * rows → FitsCells (k + m) g → emitted space (between (head_of columns rows) k) (cell_records one_sad g k m) ≡ placed g k m
  unfolding cell_records cell_record emitted placed
  cells-emitted zero k h fits = refl
  cells-emitted (suc m) k h fits =
      let c = stats_at g k in
      let eight = drop 2 (cell_record one_sad c) in
      let more : k < columns * rows = omega arith in
      let full : length eight ≡ 8 = omega (arith, length-cell c) in
      let rest = cell_records one_sad g (suc k) m in
      emitted-append space (between (head_of columns rows) k) (cell_record one_sad c) rest
      ∙ ap₂ (λ (ps : List Placed) (s : State). ps ++ emitted space s rest) (record_emitted space columns rows k wide more eight full) (one-taken k more)
      ∙ ap₂ (λ (d : MEStats) (ps : List Placed). record { place = k; cell = d } ∷ ps) (cell-back c (fits k (omega arith))) (cells-emitted m (suc k) (omega arith) (λ j below. fits j (omega arith)))

  -- each goes to its place, and the later ones leave it there
  pub cells-kept : (m k : ℕ) → k + m ≤ columns * rows → FitsCells (k + m) g → (lent : Grid) → k + m ≤ room lent → (i : ℕ) → k ≤ i → i < k + m → stats_at (kept space (between (head_of columns rows) k) (cell_records one_sad g k m) lent) i ≡ stats_at g i
  cells-kept zero k h fits lent long i low high = absurd (omega arith)
  cells-kept (suc m) k h fits lent long i low high =
      let now = with_cell k (stats_at g k) lent in
      let last = kept space (between (head_of columns rows) (suc k)) (cell_records one_sad g (suc k) m) now in
      let here : stats_at last k ≡ stats_at g k = kept-below space (between (head_of columns rows) (suc k)) (cell_records one_sad g (suc k) m) now k wide (omega arith) ∙ cell-here k (stats_at g k) lent (omega arith) in
      ap (λ (h : Grid). stats_at h i) (rest_kept k (omega arith) m (fits k (omega arith)) lent)
      ∙ ⊎_elim (λ e. subst (λ (j : ℕ). stats_at last j ≡ stats_at g j) e here)
      (λ above. cells-kept m (suc k) (omega arith) (λ j below. fits j (omega arith)) now (omega (arith, same-room (cell-lengths k (stats_at g k) lent))) i above (omega arith))
      (eq-or-lt_of_le low)

-- a read that is not refused
pub read_grid_lem : (file : List ℕ) (g : Grid) → read_refusal file g ≡ 0 → read_grid file g ≡ kept (room g) start file g
unfolding read_grid
read_grid_lem file g done = ap (λ (n : ℕ). cond (eqb n 0) (kept (room g) start file g) g) done

-- the file of one grid, read into another
module _ (columns rows : ℕ) (g lent : Grid) (shaped : Shaped (room lent) columns rows) where
  file_opens : header_end (room lent) (head_of (columns - 1 + 1) (rows - 1 + 1)) ≡ between (head_of columns rows) 0
  file_opens = ap₂ (λ (x y : ℕ). header_end (room lent) (head_of x y)) (omega (arith, shaped.wide)) (omega (arith, shaped.high)) ∙ shaped-opens shaped

  file_taken : taken (room lent) start (file_of columns rows g) ≡ between (head_of columns rows) (columns * rows)
  unfolding file_of header_record marked
  file_taken =
      let records = cell_records one_sad g 0 (columns * rows) in
      fourth_taken (room lent) 0x4C refl 0x47 refl (columns - 1) (rows - 1) records ∙ ap (λ (s : State). taken (room lent) s records) file_opens
      ∙ cells-taken (room lent) columns rows shaped.wide g (columns * rows) 0 (omega arith) ∙ ap (between (head_of columns rows)) (omega arith)

  file_kept : kept (room lent) start (file_of columns rows g) lent ≡ kept (room lent) (between (head_of columns rows) 0) (cell_records one_sad g 0 (columns * rows)) lent
  unfolding file_of header_record marked kept
  file_kept =
      let records = cell_records one_sad g 0 (columns * rows) in
      placed_same (header-emitted (room lent) 0x4C refl 0x47 refl (columns - 1) (rows - 1) records) lent ∙ ap (λ (s : State). kept (room lent) s records lent) file_opens

  file_ends : ended (taken (room lent) start (file_of columns rows g)) ≡ 0
  file_ends = ap ended file_taken ∙ all_there (room lent) columns rows shaped.wide

  file_grid : read_grid (file_of columns rows g) lent ≡ kept (room lent) start (file_of columns rows g) lent
  unfolding read_refusal
  file_grid = read_grid_lem (file_of columns rows g) lent file_ends

  pub file_answer : read_answer (file_of columns rows g) lent ≡ shape_of 0 columns rows
  unfolding read_answer read_refusal
  file_answer =
      ap (λ (s : State). shape_of (ended s) s.head.columns s.head.rows) file_taken
      ∙ ap (λ (n : ℕ). shape_of n columns rows) (all_there (room lent) columns rows shaped.wide)

  pub file_inside : FitsCells (columns * rows) g → SameCells (columns * rows) (read_grid (file_of columns rows g) lent) g
  file_inside fits i below =
      ap (λ (h : Grid). stats_at h i) (file_grid ∙ file_kept)
      ∙ cells-kept (room lent) columns rows shaped.wide g (columns * rows) 0 (omega arith) (λ j inside. fits j (omega arith)) lent (omega (arith, shaped.inside)) i (omega arith) (omega arith)

  pub file_past : SamePast (columns * rows) (read_grid (file_of columns rows g) lent) lent
  file_past i past =
      ap (λ (h : Grid). stats_at h i) file_grid
      ∙ kept-past (room lent) start (file_of columns rows g) lent i (omega (arith, ap (λ (s : State). s.cells) file_taken))

  pub file_emitted : FitsCells (columns * rows) g → emitted (room lent) start (file_of columns rows g) ≡ placed g 0 (columns * rows)
  unfolding file_of header_record marked
  file_emitted fits =
      let records = cell_records one_sad g 0 (columns * rows) in
      header-emitted (room lent) 0x4C refl 0x47 refl (columns - 1) (rows - 1) records ∙ ap (λ (s : State). emitted (room lent) s records) file_opens
      ∙ cells-emitted (room lent) columns rows shaped.wide g (columns * rows) 0 (omega arith) (λ j inside. fits j (omega arith))
