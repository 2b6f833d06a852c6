-- What an accepted list is, in propositions; that raster order is accepted; and that what follows the last superblock of an
-- accepted list shares no edge with it. Assumes nothing.
use mathlib.Core.Path.{◌≡◌, refl, sym, ap, subst, ◌∙◌}
use mathlib.Core.Logic.{◌⊎◌, inl, inr, ⊎_elim}
use mathlib.Core.Bool.{Bool, true, false, cond}
use mathlib.Core.List.{List, [], ◌∷◌, ◌++◌, append-nil}
use Prim.Native.Nat.{ℕ, zero, suc, ◌+◌, ◌*◌, ◌<◌}
use native.Mathlib.Nat.{eq-or-lt_of_le, le_of_suc-le-suc, eq-zero-or-pos}
use native.Mathlib.Omega.{arith}
use borrow.Author.Tests.{ltb-true, lt-ltb, eqb-true, eqb-false}
use lib.Dec.{ltb, eqb}
use lib.ListN.{length, get_or}
use Rattle.ground.proofs.TestLaws.{not_so}
use Rattle.ground.proofs.EveryLaws.{below_at, below_of}
use Rattle.order.specs.List.{times, names_each, raster, before, shares_edge, all_earlier, keeps_raster, list_refusal}
use Rattle.order.proofs.EdgeLaws.{earlier-at, earlier-of}
use Rattle.order.proofs.TimesLaws.{times-here, times-past, times-append, member_occurs, around, names_once, names_below, names_long, names_by, below_in, in_member}
use Rattle.order.proofs.OrderLaws.{before-around, before-without}

-- each of the first n superblocks exactly once and nothing else, and of those that share an edge the earlier first
pub record Accepted (across n : ℕ) (list : List ℕ) : Type 0 where
  pub below : (i : ℕ) → i < length list → get_or list i 0 < n
  pub once : (k : ℕ) → k < n → times k list ≡ 1
  pub long : length list ≡ n
  pub kept : (a b : ℕ) → a < b → b < n → shares_edge across a b ≡ true → before a b list ≡ true

zero-by : (s t : Bool) → ◌≡◌ {A = ℕ} (cond s (cond t 0 7) 6) 0 → (s ≡ true) × (t ≡ true)
zero-by true true e = (refl, refl)
zero-by true false e = absurd (omega arith)
zero-by false t e = absurd (omega arith)

pub accepted : (across down : ℕ) (list : List ℕ) → list_refusal across down list ≡ 0 → Accepted across (across * down) list
unfolding list_refusal keeps_raster
accepted across down list h =
    let n = across * down in
    let tests = zero-by (names_each n list) (keeps_raster across n list) h in
    record {
      below = names_below n list tests.0;
      once = names_once n list tests.0;
      long = names_long n list tests.0;
      kept = λ a b p q e.
          earlier-at across b (λ a. before a b list) (below_at n (λ b. all_earlier across b (λ a. before a b list)) tests.1 b q) a p e;
    }

pub accepted-of : (across down : ℕ) (list : List ℕ) → Accepted across (across * down) list → list_refusal across down list ≡ 0
unfolding list_refusal keeps_raster
accepted-of across down list h =
    let n = across * down in
    rw (
      names_by n list h.once (below_in n list h.below),
      below_of n (λ b. all_earlier across b (λ a. before a b list)) (λ b q. earlier-of across b (λ a. before a b list) (λ a p e. h.kept a b p q e)),
    )

pub occurs_below : {across n : ℕ} {list : List ℕ} → Accepted across n list → (k : ℕ) → 0 < times k list → k < n
occurs_below {across} {n} {list} h k p = ltb-true k n (in_member list (λ k. ltb k n) (below_in n list h.below) k p)

-- the same from what is said of the numbers that occur; the length follows
accepted-by : {across n : ℕ} {list : List ℕ} → ((k : ℕ) → 0 < times k list → k < n) → ((k : ℕ) → k < n → times k list ≡ 1) → ((a b : ℕ) → a < b → b < n → shares_edge across a b ≡ true → before a b list ≡ true) → Accepted across n list
accepted-by {across} {n} {list} below once kept =
    let members : (i : ℕ) → i < length list → get_or list i 0 < n = λ i p. below (get_or list i 0) (member_occurs list i p) in
    record { below = members; once = once; long = names_long n list (names_by n list once (below_in n list members)); kept = kept }

-- one superblock more, at the end
module _ (across n : ℕ) (list : List ℕ) (h : Accepted across n list) where
  new : times n list ≡ 0
  new = ⊎_elim (λ e. e) (λ p. absurd (omega (arith, occurs_below h n p))) (eq-zero-or-pos (times n list))

  more_others : (k : ℕ) → (n ≡ k → ⊥) → times k (list ++ n ∷ []) ≡ times k list
  unfolding times
  more_others k other = omega (arith, times-append k list (n ∷ []), times-past k n [] other)

  more_new : times n (list ++ n ∷ []) ≡ 1
  unfolding times
  more_new = omega (arith, times-append n list (n ∷ []), times-here n [], new)

  more_below : (k : ℕ) → 0 < times k (list ++ n ∷ []) → (t : Bool) → eqb n k ≡ t → k < suc n
  more_below k p true e = omega (arith, eqb-true n k e)
  more_below k p false e = omega (arith, occurs_below h k (omega (arith, more_others k (eqb-false n k e))))

  more_once : (k : ℕ) → (k ≡ n) ⊎ (k < n) → times k (list ++ n ∷ []) ≡ 1
  more_once k (inl e) = ap (λ (m : ℕ). times m (list ++ n ∷ [])) e ∙ more_new
  more_once k (inr p) = more_others k (λ e. omega arith) ∙ h.once k p

  more_kept : (a b : ℕ) → a < b → (b ≡ n) ⊎ (b < n) → shares_edge across a b ≡ true → before a b (list ++ n ∷ []) ≡ true
  more_kept a b p (inl e) shared =
      subst (λ (m : ℕ). before a m (list ++ n ∷ []) ≡ true) (sym e)
      (before-around a n list [] new (λ s. omega arith) ∙ lt-ltb 0 (times a list) (omega (arith, h.once a (omega arith))))
  more_kept a b p (inr q) shared =
      before-without a b n list [] (λ s. omega arith) (λ s. omega arith) ∙ ap (before a b) (append-nil list) ∙ h.kept a b p q shared

  pub accepted-more : Accepted across (suc n) (list ++ n ∷ [])
  accepted-more =
      accepted-by (λ k p. more_below k p (eqb n k) refl) (λ k p. more_once k (eq-or-lt_of_le (le_of_suc-le-suc p)))
      (λ a b p q e. more_kept a b p (eq-or-lt_of_le (le_of_suc-le-suc q)) e)

pub raster-accepted : (across n : ℕ) → Accepted across n (raster n)
unfolding raster times
raster-accepted across zero = accepted-by (λ k p. absurd (omega arith)) (λ k p. absurd (omega arith)) (λ a b p q e. absurd (omega arith))
raster-accepted across (suc n) = accepted-more across n (raster n) (raster-accepted across n)

pub raster-taken : (across down : ℕ) → list_refusal across down (raster (across * down)) ≡ 0
raster-taken across down = accepted-of across down (raster (across * down)) (raster-accepted across (across * down))

-- an accepted list around its last superblock in raster order: what stands after shares no edge with it, and the rest is accepted
pub record AroundLast (across n : ℕ) (list : List ℕ) : Type 0 where
  pub front : List ℕ
  pub back : List ℕ
  pub whole : list ≡ front ++ n ∷ back
  pub apart : (k : ℕ) → 0 < times k back → shares_edge across k n ≡ false
  pub rest : Accepted across n (front ++ back)

module _ (across n : ℕ) (front back : List ℕ) (first : times n front ≡ 0) (h : Accepted across (suc n) (front ++ n ∷ back)) where
  times-whole : (k : ℕ) → times k (front ++ n ∷ back) ≡ times k front + times k (n ∷ back)
  times-whole k = times-append k front (n ∷ back)

  none_after : times n back ≡ 0
  none_after = omega (arith, times-whole n, times-here n back, h.once n (omega arith))

  times-rest : (k : ℕ) → (n ≡ k → ⊥) → times k (front ++ back) ≡ times k (front ++ n ∷ back)
  times-rest k other = omega (arith, times-whole k, times-past k n back other, times-append k front back)

  other_after : (k : ℕ) → 0 < times k (front ++ back) → n ≡ k → ⊥
  other_after k p e = omega (arith, times-append k front back, ap (λ (m : ℕ). times m front) e, ap (λ (m : ℕ). times m back) e, first, none_after)

  -- one that shares an edge with n would stand before it too, and so twice
  after_apart : (k : ℕ) → 0 < times k back → shares_edge across k n ≡ true → ⊥
  after_apart k p e =
      let other = other_after k (omega (arith, times-append k front back)) in
      let inside = occurs_below h k (omega (arith, times-whole k, times-past k n back other)) in
      let met = sym (before-around k n front back first (λ s. other (sym s))) ∙ h.kept k n (omega arith) (omega arith) e in
      omega (arith, ltb-true 0 (times k front) met, h.once k inside, times-whole k, times-past k n back other)

  rest_below : (k : ℕ) → 0 < times k (front ++ back) → k < n
  rest_below k p =
      let other = other_after k p in
      let inside = occurs_below h k (omega (arith, times-rest k other)) in
      omega arith

  rest_kept : (a b : ℕ) → a < b → b < n → shares_edge across a b ≡ true → before a b (front ++ back) ≡ true
  rest_kept a b p q e = sym (before-without a b n front back (λ s. omega arith) (λ s. omega arith)) ∙ h.kept a b p (omega arith) e

  rest_accepted : Accepted across n (front ++ back)
  rest_accepted = accepted-by rest_below (λ k p. times-rest k (λ e. omega arith) ∙ h.once k (omega arith)) rest_kept

pub around_last : (across n : ℕ) (list : List ℕ) → Accepted across (suc n) list → AroundLast across n list
around_last across n list h =
    let it = around n list (omega (arith, h.once n (omega arith))) in
    let same = subst (Accepted across (suc n)) it.whole h in
    record {
      front = it.front;
      back = it.back;
      whole = it.whole;
      apart = λ k p. not_so (shares_edge across k n) (after_apart across n it.front it.back it.first same k p);
      rest = rest_accepted across n it.front it.back it.first same;
    }
