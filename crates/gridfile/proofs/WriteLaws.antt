-- Laws of writing: how long a file's records are, how they are put one after another, and what a write may count on.
-- Assumes nothing.
use mathlib.Core.Path.{◌≡◌, refl, ap, ◌∙◌}
use mathlib.Core.List.{List, ◌++◌, append_assoc, append-nil}
use Prim.Native.Nat.{ℕ, zero, suc, ◌+◌, ◌*◌, ◌/◌, ◌%◌, ◌^◌, ◌≤◌}
use native.Mathlib.Nat.{add-zero, zero-add, add-suc, suc-add, mul_assoc, mul-le-mul}
use native.Mathlib.Omega.{arith}
use borrow.Author.Tests.{leb-true}
use lib.ListN.{length, drop, length-append}
use lib.Seq.{sets, sets-eq}
use Rattle.ground.proofs.TestLaws.{both}
use Rattle.motion.specs.Limits.{cell_side}
use Rattle.motion.specs.Frame.{Side}
use Rattle.grid.specs.Grid.{Grid, Held, cells, stats_at, room}
use Rattle.refusal.specs.Refusals.{side_ok}
use Rattle.refusal.proofs.RefusalLaws.{first-passed, passes, side_of, held}
use Rattle.records.specs.Forms.{byte_sides, one_sad, plain_forms, header_bytes, cell_bytes}
use Rattle.records.specs.Records.{header_record, cell_record, file_bytes}
use Rattle.records.proofs.NumberLaws.{puts_on}
use Rattle.records.proofs.RecordLaws.{length-cell}
use Rattle.gridfile.specs.Writing.{cell_records, file_of, write_refusal}

pub length-cells : (g : Grid) (i n : ℕ) → length (cell_records one_sad g i n) ≡ cell_bytes * n
unfolding cell_records
length-cells g i zero = refl
length-cells g i (suc n) = simp (length-append, length-cell, length-cells g (suc i) n) (omega arith)

-- the records of one cell more
pub cells-snoc : (g : Grid) (i n : ℕ) → cell_records one_sad g i (suc n) ≡ cell_records one_sad g i n ++ cell_record one_sad (stats_at g (i + n))
unfolding cell_records
cells-snoc g i zero = simp (append-nil, add-zero)
cells-snoc g i (suc n) =
    rw (append_assoc, add-suc, ← suc-add) (ap (λ (l : List ℕ). cell_record one_sad (stats_at g i) ++ l) (cells-snoc g (suc i) n))

-- a grid has at most 256 by 256 cells
pub shape_most : {columns rows : ℕ} → columns ≤ 2 ^ 8 → rows ≤ 2 ^ 8 → columns * rows ≤ 2 ^ 16
shape_most {columns} {rows} wide high = mul-le-mul {n₁ = columns} {m₁ = rows} {n₂ = 2 ^ 8} {m₂ = 2 ^ 8} wide high

-- and an even number of them
pub cells-even : {width : ℕ} (height : ℕ) → Side width → ((width / cell_side) * (height / cell_side)) % 2 ≡ 0
cells-even {width} height s =
    let pairs : width / cell_side ≡ 2 * (width / 8) = omega (arith, s.whole) in
    rw (pairs, mul_assoc) (omega arith)

-- what a write that is not refused may count on
pub record Writes (width height : ℕ) (g : Grid) (file : List ℕ) : Type 0 where
  pub wide : Side width
  pub high : Side height
  pub held : Held width height g
  pub room : file_bytes plain_forms (cells width height) ≤ length file

pub writes : (width height : ℕ) (g : Grid) (file : List ℕ) → write_refusal width height (room g) (length file) ≡ 0 → Writes width height g file
unfolding write_refusal
writes width height g file e =
    let one = first-passed 0 _ _ e in
    let five = first-passed 4 _ _ one.1 in
    let sides = both (side_ok width) (side_ok height) one.0 in
    record {
      wide = side_of width sides.0;
      high = side_of height sides.1;
      held = held width height g five.0;
      room = leb-true _ (length file) (passes 12 _ five.1);
    }

-- the file is the header, and the cells behind it
module _ (columns rows : ℕ) (g : Grid) where
  pub length-file : length (file_of columns rows g) ≡ file_bytes plain_forms (columns * rows)
  unfolding header_record file_bytes file_of
  length-file = simp length-cells (omega arith)

  file_sets : (l : List ℕ) {m n : List ℕ} → m ≡ sets l 0 (header_record byte_sides columns rows) → n ≡ sets m header_bytes (cell_records one_sad g 0 (columns * rows)) → n ≡ sets l 0 (file_of columns rows g)
  unfolding header_record file_of
  file_sets l e f = puts_on l 0 (header_record byte_sides columns rows) (cell_records one_sad g 0 (columns * rows)) e f refl

  pub file_put : (l : List ℕ) {m n : List ℕ} → file_bytes plain_forms (columns * rows) ≤ length l → m ≡ sets l 0 (header_record byte_sides columns rows) → n ≡ sets m header_bytes (cell_records one_sad g 0 (columns * rows)) → n ≡ file_of columns rows g ++ drop (file_bytes plain_forms (columns * rows)) l
  file_put l h e f = file_sets l e f ∙ sets-eq (file_of columns rows g) l 0 (omega (arith, length-file)) ∙ rw (zero-add, length-file)
