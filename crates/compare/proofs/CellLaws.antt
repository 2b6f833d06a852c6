-- Laws of two cells that hold the same. Assumes nothing.
use Rattle.std.proofs.Common.{int_eq}
use Rattle.std.proofs.lemmas.Bool.Decides.{same_from_decides, Decides-int_eq}
use mathlib.Core.Path.{◌≡◌, sym, ap, subst, ◌∙◌}
use mathlib.Core.Bool.{true, false, not, ◌&&◌, true≢false}
use Prim.Native.Nat.{ℕ}
use native.Mathlib.Omega.{arith}
use borrow.Author.Tests.{leb-true, le-leb, eqb-true, eq-eqb, not-true, not-false}
use lib.Dec.{leb, eqb}
use lib.IntN.{ℤ, pos, negsuc}
use mir.Syntax.{w16}
use mir.Val.{SFits, of_z, to_z}
use mir.ValLaws.{to_z-of_z}
use Rattle.ground.proofs.TestLaws.{both, same, not_so}
use Rattle.grid.specs.declared.cells.MEStats.{MEStats}
use Rattle.grid.specs.Grid.{Grid, stats_at}
use Rattle.compare.specs.Differ.{eq_z, same_cell, differs_at}

-- neither of two numbers is larger
neither : (m n : ℕ) → leb m n && leb n m ≡ true → m ≡ n
neither m n h =
    let parts = both (leb m n) (leb n m) h in
    omega (arith, leb-true m n parts.0, leb-true n m parts.1)

number_of : (a b : ℤ) → eq_z a b ≡ true → a ≡ b
unfolding eq_z
number_of (pos m) (pos n) h = ap pos (neither m n h)
number_of (pos m) (negsuc n) h = absurd (true≢false (sym h))
number_of (negsuc m) (pos n) h = absurd (true≢false (sym h))
number_of (negsuc m) (negsuc n) h = ap negsuc (sym (neither n m h))

same_number : (a : ℤ) → eq_z a a ≡ true
unfolding eq_z
same_number (pos n) = rw (le-leb n n (omega arith))
same_number (negsuc n) = rw (le-leb n n (omega arith))

number_is : {a b : ℤ} → a ≡ b → eq_z a b ≡ true
number_is {a} e = subst (λ (z : ℤ). eq_z a z ≡ true) e (same_number a)

-- components are held in bits
pub bits_decide : {x y : ℤ} → SFits w16 x → SFits w16 y → eqb (of_z w16 x) (of_z w16 y) ≡ eq_z x y
bits_decide {x} {y} f g =
    same (eqb (of_z w16 x) (of_z w16 y)) (eq_z x y)
    (λ h. number_is (sym (to_z-of_z w16 x f) ∙ ap (to_z w16) (eqb-true (of_z w16 x) (of_z w16 y) h) ∙ to_z-of_z w16 y g))
    (λ h. eq-eqb (of_z w16 x) (of_z w16 y) (ap (of_z w16) (number_of x y h)))

-- the test of a derived equality is the same
pub tests_agree : (a b : ℤ) → int_eq a b ≡ eq_z a b
tests_agree a b = same_from_decides (int_eq a b) (eq_z a b) (Decides-int_eq a b) (number_of a b, number_is)

module _ (a b : MEStats) where
  cell-of : same_cell a b ≡ true → a ≡ b
  unfolding same_cell
  cell-of h =
      let vectors = both (eq_z a.mv.row b.mv.row && eq_z a.mv.col b.mv.col) (eqb a.normalized_sad b.normalized_sad) h in
      let parts = both (eq_z a.mv.row b.mv.row) (eq_z a.mv.col b.mv.col) vectors.0 in
      λ i.
      record {
        mv = record { row = number_of _ _ parts.0 i; col = number_of _ _ parts.1 i };
        normalized_sad = eqb-true a.normalized_sad b.normalized_sad vectors.1 i;
      }

  cell-is : a ≡ b → same_cell a b ≡ true
  unfolding same_cell
  cell-is e =
      rw (number_is (ap (λ (c : MEStats). c.mv.row) e), number_is (ap (λ (c : MEStats). c.mv.col) e), eq-eqb _ _ (ap (λ (c : MEStats). c.normalized_sad) e))

-- a place differs exactly where the two cells are not equal
module _ (f g : Grid) (i : ℕ) where
  pub differs_of : differs_at f g i ≡ true → stats_at f i ≡ stats_at g i → ⊥
  unfolding differs_at
  differs_of h e = true≢false (sym (cell-is (stats_at f i) (stats_at g i) e) ∙ not-true _ h)

  pub same_of : differs_at f g i ≡ false → stats_at f i ≡ stats_at g i
  unfolding differs_at
  same_of h = cell-of (stats_at f i) (stats_at g i) (not-false _ h)

  pub differs_is : (stats_at f i ≡ stats_at g i → ⊥) → differs_at f g i ≡ true
  unfolding differs_at
  differs_is h = ap not (not_so (same_cell (stats_at f i) (stats_at g i)) (λ e. h (cell-of (stats_at f i) (stats_at g i) e)))
