-- Laws of a test of every number below a bound, and of one of every member of a list. Assumes nothing.
use mathlib.Core.Path.{◌≡◌, refl, sym, ap, ap₂, subst, ◌∙◌}
use mathlib.Core.Logic.{⊎_elim}
use mathlib.Core.Bool.{Bool, true, false, ◌&&◌, true≢false}
use mathlib.Core.List.{List, [], ◌∷◌}
use Prim.Native.Nat.{ℕ, zero, suc, ◌+◌, ◌<◌}
use native.Mathlib.Nat.{eq-or-lt_of_le, le_of_suc-le-suc}
use native.Mathlib.Numerals.{add-one}
use native.Mathlib.Omega.{arith}
use lib.ListN.{length, get_or}
use Rattle.ground.specs.Every.{all_below, all_in}
use Rattle.ground.proofs.TestLaws.{both, not_so}

pub below_at : (n : ℕ) (test : ℕ → Bool) → all_below n test ≡ true → (k : ℕ) → k < n → test k ≡ true
unfolding all_below
below_at zero test h k p = absurd (omega arith)
below_at (suc n) test h k p =
    let parts = both (all_below n test) (test n) h in
    ⊎_elim (λ e. subst (λ (m : ℕ). test m ≡ true) (sym e) parts.1) (λ q. below_at n test parts.0 k q) (eq-or-lt_of_le (le_of_suc-le-suc p))

pub below_of : (n : ℕ) (test : ℕ → Bool) → ((k : ℕ) → k < n → test k ≡ true) → all_below n test ≡ true
unfolding all_below
below_of zero test h = refl
below_of (suc n) test h = ap₂ (λ (s t : Bool). s && t) (below_of n test (λ k p. h k (omega arith))) (h n (omega arith))

pub below_same : (n : ℕ) (s t : ℕ → Bool) → ((k : ℕ) → k < n → s k ≡ t k) → all_below n s ≡ all_below n t
unfolding all_below
below_same zero s t h = refl
below_same (suc n) s t h = ap₂ (λ (u v : Bool). u && v) (below_same n s t (λ k p. h k (omega arith))) (h n (omega arith))

-- how a loop comes to it: none at first, one number more, or one that fails
pub below_none : (test : ℕ → Bool) → all_below 0 test ≡ true
unfolding all_below
below_none test = refl

pub below_more : (n : ℕ) (test : ℕ → Bool) → all_below n test ≡ true → test n ≡ true → all_below (n + 1) test ≡ true
unfolding all_below
below_more n test all last = ap (λ (m : ℕ). all_below m test) (add-one n) ∙ ap₂ (λ (s t : Bool). s && t) all last

pub below_fails : (n : ℕ) (test : ℕ → Bool) (k : ℕ) → k < n → test k ≡ false → all_below n test ≡ false
below_fails n test k h e = not_so (all_below n test) (λ all. true≢false (sym (below_at n test all k h) ∙ e))

-- and of every member of a list
pub in_at : (list : List ℕ) (test : ℕ → Bool) → all_in list test ≡ true → (i : ℕ) → i < length list → test (get_or list i 0) ≡ true
unfolding all_in
in_at [] test h i p = absurd (omega arith)
in_at (x ∷ xs) test h zero p = (both (test x) (all_in xs test) h).0
in_at (x ∷ xs) test h (suc i) p = in_at xs test (both (test x) (all_in xs test) h).1 i (omega arith)

pub in_of : (list : List ℕ) (test : ℕ → Bool) → ((i : ℕ) → i < length list → test (get_or list i 0) ≡ true) → all_in list test ≡ true
unfolding all_in
in_of [] test h = refl
in_of (x ∷ xs) test h = ap₂ (λ (s t : Bool). s && t) (h zero (omega arith)) (in_of xs test (λ i p. h (suc i) (omega arith)))
