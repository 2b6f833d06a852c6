-- Laws of what a comparison answers. Assumes nothing.
use Rattle.std.proofs.Common.{min, count_by, unwrap_or}
use Rattle.std.specs.List.{range_with_len, find}
use Rattle.std.proofs.lemmas.Bool.Decides.{nat_tests}
use mathlib.Core.Path.{◌≡◌, ap, ◌∙◌}
use Prim.Native.Nat.{ℕ, ◌*◌, ◌-◌, ◌≤◌, ◌<◌, ◌^◌}
use native.Mathlib.Nat.{mul-le-mul}
use native.Mathlib.Omega.{arith}
use borrow.Author.Tests.{eq-eqb, ne_eqb}
use lib.Dec.{leb}
use lib.ListN.{length, get_or}
use Rattle.grid.specs.Grid.{Grid, room}
use Rattle.refusal.specs.Refusals.{refuse, ◌then◌}
use Rattle.gridfile.specs.declared.read.Shape.{Shape}
use Rattle.compare.specs.Differ.{differs_at, differing}
use Rattle.compare.specs.Answer.{compare_refusal, comparison_of, compare_answer, next_answer}
use Rattle.compare.proofs.DifferLaws.{count_differs, find_differs, from_first}

-- columns times rows is a number of 64 bits
pub cells-most : {columns rows : ℕ} → columns < 2 ^ 32 → rows < 2 ^ 32 → columns * rows < 2 ^ 64
cells-most {columns} {rows} wide high =
    let most : columns * rows ≤ (2 ^ 32 - 1) * (2 ^ 32 - 1) = mul-le-mul {n₁ = columns} {m₁ = rows} {n₂ = 2 ^ 32 - 1} {m₂ = 2 ^ 32 - 1} (omega arith) (omega arith) in
    omega arith

-- the grid with less room decides
less_room : (cells n m : ℕ) → refuse 13 (leb cells n) then refuse 13 (leb cells m) ≡ refuse 13 (leb cells (min n m))
unfolding refuse ◌then◌
less_room cells n m = grind (arith, nat_tests)

-- of two files that were read, with one shape, the room decides
pub room_decides : (first : Shape) (n : ℕ) (second : Shape) (m : ℕ) → first.code ≡ 0 → second.code ≡ 0 → first.columns ≡ second.columns → first.rows ≡ second.rows → compare_refusal first n second m ≡ refuse 13 (leb (first.columns * first.rows) (min n m))
unfolding compare_refusal refuse ◌then◌
room_decides first n second m first_read second-read columns rows =
    rw (first_read, second-read, eq-eqb _ _ columns, eq-eqb _ _ rows) (less_room (first.columns * first.rows) n m)

-- what is found and counted in the cells of both, and that the count may start at the first place
module _ (first : Shape) (f : Grid) (second : Shape) (g : Grid) (from : ℕ) {cells : ℕ} (none : compare_refusal first (room f) second (room g) ≡ 0) (all : cells ≡ first.columns * first.rows) {place : ℕ} (found : place ≡ unwrap_or (find (differs_at f g) (range_with_len from (cells - from))) cells) where
  place_is : place ≡ get_or (differing f g from cells) 0 cells
  place_is = found ∙ find_differs f g from cells

  pub counted_answer : {count : ℕ} → count ≡ count_by (differs_at f g) (range_with_len place (cells - place)) → record { code = 0; count = count; first = place } ≡ compare_answer first f second g from
  unfolding compare_answer comparison_of
  counted_answer counted =
      let count-is = counted ∙ count_differs f g place cells ∙ ap (λ (n : ℕ). length (differing f g n cells)) place_is ∙ ap length (from_first f g cells from) in
      rw (none, ← all, count-is) (ap (λ (n : ℕ). record { code = 0; count = length (differing f g from cells); first = n }) place_is)

  pub found_next : record { code = 0; place = place } ≡ next_answer first f second g from
  unfolding next_answer compare_answer comparison_of
  found_next = rw (none, ← all, ← place_is)

-- a refusal counts nothing and has no place
module _ (first : Shape) (f : Grid) (second : Shape) (g : Grid) (from : ℕ) {number : ℕ} (is : number ≡ compare_refusal first (room f) second (room g)) (some : 0 < number) where
  pub refused_answer : record { code = number; count = 0; first = 0 } ≡ compare_answer first f second g from
  unfolding compare_answer comparison_of
  refused_answer = rw (← is, ne_eqb number 0 (omega arith))

  pub refused_next : record { code = number; place = 0 } ≡ next_answer first f second g from
  unfolding next_answer compare_answer comparison_of
  refused_next = rw (← is, ne_eqb number 0 (omega arith))
