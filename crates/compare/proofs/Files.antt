-- Two files of which no cell differs are the same bytes, and the other way round. Assumes nothing.
use mathlib.Core.Path.{◌≡◌, refl, sym, ap, ap₂, subst, ◌∙◌}
use mathlib.Core.Bool.{cond}
use mathlib.Core.List.{List, ◌++◌}
use Prim.Native.Nat.{ℕ, zero, suc, ◌+◌, ◌*◌, ◌≤◌, ◌<◌}
use native.Mathlib.Omega.{arith}
use borrow.Author.Tests.{eqb-true}
use lib.Dec.{eqb}
use lib.ListN.{length}
use Rattle.ground.proofs.TestLaws.{both}
use Rattle.grid.specs.declared.cells.MEStats.{MEStats}
use Rattle.grid.specs.Grid.{Grid, stats_at, room}
use Rattle.refusal.proofs.RefusalLaws.{none_of, passes}
use Rattle.records.specs.Forms.{byte_sides, one_sad}
use Rattle.records.specs.Records.{cell_record, header_record}
use Rattle.records.specs.Numbers.{OfBytes}
use Rattle.gridfile.specs.Writing.{cell_records, file_of}
use Rattle.gridfile.specs.Reading.{read_refusal, shape_of, read_answer, read_grid}
use Rattle.gridfile.specs.Keeps.{SameCells, FileOf, OneGrid}
use Rattle.gridfile.proofs.Keeps.{accepted}
use Rattle.compare.specs.Differ.{differing}
use Rattle.compare.specs.Answer.{compare_refusal, comparison_of, compare_answer}
use Rattle.compare.specs.Files.{of_files, SameFiles}
use Rattle.compare.proofs.Places.{none_differ}

-- grids with the same cells have the same file
same-records : (f g : Grid) (n i : ℕ) → ((k : ℕ) → i ≤ k → k < i + n → stats_at f k ≡ stats_at g k) → cell_records one_sad f i n ≡ cell_records one_sad g i n
unfolding cell_records
same-records f g zero i same = refl
same-records f g (suc n) i same =
    ap₂ (λ (c : MEStats) (records : List ℕ). cell_record one_sad c ++ records) (same i (omega arith) (omega arith))
    (same-records f g n (suc i) (λ k low high. same k (omega arith) (omega arith)))

same-file : (columns rows : ℕ) (f g : Grid) → SameCells (columns * rows) f g → file_of columns rows f ≡ file_of columns rows g
unfolding file_of
same-file columns rows f g same =
    ap (λ (records : List ℕ). header_record byte_sides columns rows ++ records) (same-records f g (columns * rows) 0 (λ k low high. same k (omega arith)))

module _ (file : List ℕ) (g : Grid) (other : List ℕ) (h : Grid) (bytes : OfBytes file) (other-bytes : OfBytes other) (code : (of_files file g other h).code ≡ 0) where
  abbrev cells : ℕ
  cells = (read_answer file g).columns * (read_answer file g).rows

  -- what the comparison says of a pair that is not refused
  none : compare_refusal (read_answer file g) (room (read_grid file g)) (read_answer other h) (room (read_grid other h)) ≡ 0
  unfolding compare_answer comparison_of
  none = code

  count_is : (of_files file g other h).count ≡ length (differing (read_grid file g) (read_grid other h) 0 cells)
  unfolding compare_answer comparison_of
  count_is = ap (λ (n : ℕ). cond (eqb n 0) (length (differing (read_grid file g) (read_grid other h) 0 cells)) 0) none

  pub first_read : read_refusal file g ≡ 0
  unfolding compare_refusal read_answer shape_of
  first_read = (none_of (read_refusal file g) _ none).0

  pub second-read : read_refusal other h ≡ 0
  unfolding compare_refusal read_answer shape_of
  second-read = (none_of (read_refusal other h) _ (none_of (read_refusal file g) _ none).1).0

  pub one-shape : ((read_answer file g).columns ≡ (read_answer other h).columns) × ((read_answer file g).rows ≡ (read_answer other h).rows)
  unfolding compare_refusal
  one-shape =
      let columns = eqb (read_answer file g).columns (read_answer other h).columns in
      let rows = eqb (read_answer file g).rows (read_answer other h).rows in
      let tests = both columns rows (passes 13 _ (none_of _ _ (none_of _ _ (none_of _ _ none).1).1).0) in
      (eqb-true (read_answer file g).columns (read_answer other h).columns tests.0, eqb-true (read_answer file g).rows (read_answer other h).rows tests.1)

  one : OneGrid file (read_answer file g).columns (read_answer file g).rows (read_grid file g)
  one = accepted file g bytes first_read

  its : FileOf other (read_answer other h).columns (read_answer other h).rows (read_grid other h)
  its = (accepted other h other-bytes second-read).one

  no_cell : (of_files file g other h).count ≡ 0 → file ≡ other
  no_cell e =
      let same = (none_differ (read_grid file g) (read_grid other h) cells).0 (sym count_is ∙ e) in
      sym one.one.bytes ∙ same-file (read_answer file g).columns (read_answer file g).rows (read_grid file g) (read_grid other h) same
      ∙ ap₂ (λ (columns rows : ℕ). file_of columns rows (read_grid other h)) one-shape.0 one-shape.1 ∙ its.bytes

  no_byte : file ≡ other → (of_files file g other h).count ≡ 0
  no_byte e =
      let here = subst (λ (l : List ℕ). FileOf l (read_answer other h).columns (read_answer other h).rows (read_grid other h)) (sym e) its in
      let same = (one.only (read_answer other h).columns (read_answer other h).rows (read_grid other h) here).2 in
      count_is ∙ (none_differ (read_grid file g) (read_grid other h) cells).1 (λ i below. sym (same i below))

pub same-files : SameFiles
same-files file g other h bytes other-bytes code = (no_cell file g other h bytes other-bytes code, no_byte file g other h bytes other-bytes code)
