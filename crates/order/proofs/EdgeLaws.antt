-- Laws of superblocks that share an edge: where they lie, and that the earlier ones are the left and the upper neighbour.
-- Assumes nothing.
use mathlib.Core.Path.{◌≡◌, refl, ap, ap₂, subst, ◌∙◌}
use mathlib.Core.Logic.{◌⊎◌, inl, inr, ⊎_elim}
use mathlib.Core.Bool.{Bool, true, false, cond, not, ◌&&◌, ◌||◌, or-true}
use Prim.Native.Nat.{ℕ, zero, suc, ◌+◌, ◌-◌, ◌*◌, ◌/◌, ◌%◌, ◌≤◌, ◌<◌}
use native.Mathlib.Nat.{eq-or-lt_of_le, add-mul, zero-mod, mod-lt, mod_self, suc-mod, mod-eq_of_lt, add-mod_right, mul-add-mod_self_right, div-add-mod', div-eq_of_lt, add-div_right, mul-add-div_right}
use native.Mathlib.Numerals.{add-one}
use native.Mathlib.Omega.{arith}
use borrow.Author.Tests.{ltb-false, eqb-true, eqb-false, not-true, le-ltb, eq-eqb, ne_eqb}
use lib.Dec.{ltb, eqb}
use Rattle.ground.proofs.TestLaws.{both, tested, same, either}
use Rattle.ground.proofs.EveryLaws.{below_at, below_of, below_same}
use Rattle.order.specs.List.{shares_edge, all_earlier}

second : (s t : Bool) → s || t ≡ true → s ≡ false → t ≡ true
second s t h e = rw e at h

-- a superblock off the start of a row is not the first
pub some_of : (across n : ℕ) → (n % across ≡ 0 → ⊥) → 0 < n
some_of across zero off = absurd (off (zero-mod across))
some_of across (suc n) off = omega arith

shares_left : (across n : ℕ) → (n % across ≡ 0 → ⊥) → shares_edge across (n - 1) n ≡ true
unfolding shares_edge
shares_left across n off =
    let some = some_of across n off in
    rw (eq-eqb n (n - 1 + 1) (omega arith), ne_eqb (n % across) 0 off)

shares-above : (across n : ℕ) → across ≤ n → shares_edge across (n - across) n ≡ true
unfolding shares_edge
shares-above across n far = rw (eq-eqb n (n - across + across) (omega arith)) (or-true (eqb n (n - across + 1) && not (eqb (n % across) 0)))

-- b is one on and off the start of a row, or a row on
abbrev pub Follows : ℕ → ℕ → ℕ → Type 0
Follows across a b = ((b ≡ a + 1) × (b % across ≡ 0 → ⊥)) ⊎ (b ≡ a + across)

follows_by : (across a b : ℕ) → (eqb b (a + 1) && not (eqb (b % across) 0) ≡ true) ⊎ (eqb b (a + across) ≡ true) → Follows across a b
follows_by across a b (inl e) =
    let parts = both (eqb b (a + 1)) (not (eqb (b % across) 0)) e in
    inl (eqb-true b (a + 1) parts.0, eqb-false (b % across) 0 (not-true (eqb (b % across) 0) parts.1))
follows_by across a b (inr e) = inr (eqb-true b (a + across) e)

pub shares-follows : (across a b : ℕ) → shares_edge across a b ≡ true → Follows across a b
unfolding shares_edge
shares-follows across a b h = follows_by across a b (either (eqb b (a + 1) && not (eqb (b % across) 0)) (eqb b (a + across)) h)

-- in rows and columns: one column on in the same row, or one row on in the same column
abbrev pub Beside : ℕ → ℕ → ℕ → Type 0
Beside across a b = ((b / across ≡ a / across) × (b % across ≡ a % across + 1)) ⊎ ((b / across ≡ a / across + 1) × (b % across ≡ a % across))

module _ (across a b : ℕ) (some : 0 < across) where
  right_by : b ≡ a + 1 → (b % across ≡ 0 → ⊥) → (suc (a % across) ≡ across) ⊎ (suc (a % across) < across) → a % across + 1 < across
  right_by e off (inl q) =
      absurd (off (ap (λ (m : ℕ). m % across) (e ∙ add-one a) ∙ suc-mod a across ∙ ap (λ (m : ℕ). m % across) q ∙ mod_self across))
  right_by e off (inr q) = omega arith

  in_row : b ≡ a + 1 → (b % across ≡ 0 → ⊥) → (b / across ≡ a / across) × (b % across ≡ a % across + 1)
  in_row e off =
      let row = right_by e off (eq-or-lt_of_le (mod-lt a some)) in
      let place : b ≡ a / across * across + (a % across + 1) = omega (arith, div-add-mod' a across) in (
        ap (λ (m : ℕ). m / across) place ∙ mul-add-div_right some (a / across) (a % across + 1) ∙ ap (λ (m : ℕ). a / across + m) (div-eq_of_lt row) ∙ omega arith,
        ap (λ (m : ℕ). m % across) place ∙ mul-add-mod_self_right (a / across) across (a % across + 1) ∙ mod-eq_of_lt row,
      )

  beside-by : Follows across a b → Beside across a b
  beside-by (inl w) = inl (in_row w.0 w.1)
  beside-by (inr e) = inr (ap (λ (m : ℕ). m / across) e ∙ add-div_right a some, ap (λ (m : ℕ). m % across) e ∙ add-mod_right a across)

  pub shares-beside : shares_edge across a b ≡ true → Beside across a b
  shares-beside h = beside-by (shares-follows across a b h)

  pub beside_shares : Beside across a b → shares_edge across a b ≡ true
  beside_shares (inl w) =
      let e : b ≡ a + 1 = omega (arith, div-add-mod' a across, div-add-mod' b across, ap (λ (m : ℕ). m * across) w.0) in
      subst (λ (m : ℕ). shares_edge across m b ≡ true) (omega arith) (shares_left across b (λ z. omega arith))
  beside_shares (inr w) =
      let e : b ≡ a + across = omega (arith, div-add-mod' a across, div-add-mod' b across, ap (λ (m : ℕ). m * across) w.0, add-mul (a / across) 1 across) in
      subst (λ (m : ℕ). shares_edge across m b ≡ true) (omega arith) (shares-above across b (omega arith))

-- the earlier ones are the left and the upper neighbour
module _ (across n : ℕ) (test : ℕ → Bool) where
  pub earlier-at : all_earlier across n test ≡ true → (a : ℕ) → a < n → shares_edge across a n ≡ true → test a ≡ true
  unfolding all_earlier
  earlier-at h a p e =
      subst (λ (t : Bool). cond t (test a) true ≡ true) e (below_at n (λ a. cond (shares_edge across a n) (test a) true) h a p)

  pub earlier-of : ((a : ℕ) → a < n → shares_edge across a n ≡ true → test a ≡ true) → all_earlier across n test ≡ true
  unfolding all_earlier
  earlier-of h =
      below_of n (λ a. cond (shares_edge across a n) (test a) true)
      (λ a p. ⊎_elim (λ e. rw e (h a p e)) (λ e. rw e) (tested (shares_edge across a n)))

  left_by : all_earlier across n test ≡ true → (t : Bool) → eqb (n % across) 0 ≡ t → t || test (n - 1) ≡ true
  left_by h true e = refl
  left_by h false e =
      let off = eqb-false (n % across) 0 e in
      earlier-at h (n - 1) (omega (arith, some_of across n off)) (shares_left across n off)

  above_by : 0 < across → all_earlier across n test ≡ true → (t : Bool) → ltb n across ≡ t → t || test (n - across) ≡ true
  above_by some h true e = refl
  above_by some h false e =
      let far = ltb-false n across e in
      earlier-at h (n - across) (omega arith) (shares-above across n far)

  both_by : eqb (n % across) 0 || test (n - 1) ≡ true → ltb n across || test (n - across) ≡ true → (a : ℕ) → Follows across a n → test a ≡ true
  both_by left above a (inl w) =
      subst (λ (m : ℕ). test m ≡ true) (omega arith) (second (eqb (n % across) 0) (test (n - 1)) left (ne_eqb (n % across) 0 w.1))
  both_by left above a (inr e) =
      subst (λ (m : ℕ). test m ≡ true) (omega arith) (second (ltb n across) (test (n - across)) above (le-ltb n across (omega arith)))

  pub earlier-is : 0 < across → (eqb (n % across) 0 || test (n - 1)) && (ltb n across || test (n - across)) ≡ all_earlier across n test
  earlier-is some =
      let left = eqb (n % across) 0 || test (n - 1) in
      let above = ltb n across || test (n - across) in
      same (left && above) (all_earlier across n test)
      (λ h. earlier-of (λ a p e. both_by (both left above h).0 (both left above h).1 a (shares-follows across a n e)))
      (λ h. ap₂ (λ (s t : Bool). s && t) (left_by h (eqb (n % across) 0) refl) (above_by some h (ltb n across) refl))

pub earlier-same : (across n : ℕ) (s t : ℕ → Bool) → ((a : ℕ) → a < n → s a ≡ t a) → all_earlier across n s ≡ all_earlier across n t
unfolding all_earlier
earlier-same across n s t h =
    below_same n (λ a. cond (shares_edge across a n) (s a) true) (λ a. cond (shares_edge across a n) (t a) true)
    (λ a p. ap (λ (u : Bool). cond (shares_edge across a n) u true) (h a p))
