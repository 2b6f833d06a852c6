-- Laws of the order of a list: what is met before what, and that raster order is kept where each member comes in turn.
-- Assumes nothing.
use mathlib.Core.Path.{◌≡◌, refl, sym, ap, ◌∙◌}
use mathlib.Core.Bool.{Bool, true, false, cond}
use mathlib.Core.List.{List, [], ◌∷◌, ◌++◌}
use Prim.Native.Nat.{ℕ, zero, suc, ◌+◌, ◌<◌}
use native.Mathlib.Nat.{zero-add}
use native.Mathlib.Omega.{arith}
use borrow.Author.Tests.{lt-ltb, eqb-true, eqb-false, eq-eqb, ne_eqb}
use lib.Dec.{ltb, eqb}
use lib.ListN.{length, get_or, take, drop, length-append}
use lib.Seq.{take-append_seam, get_or-append_seam}
use Rattle.ground.specs.Every.{all_below}
use Rattle.ground.proofs.TestLaws.{same}
use Rattle.ground.proofs.EveryLaws.{below_at, below_of, below_same, in_of}
use Rattle.order.specs.List.{times, names_each, before, all_earlier, keeps_raster}
use Rattle.order.proofs.EdgeLaws.{earlier-same}
use Rattle.order.proofs.TimesLaws.{times-here, times-past, times-split, names_once, names_below, in_member}

before-by : (x : ℕ) (xs met : List ℕ) (a b : ℕ) (s t : Bool) → eqb x a ≡ s → eqb x b ≡ t → times b (x ∷ met) ≡ 0 → (times b met ≡ 0 → before a b xs ≡ ltb 0 (times a met)) → before a b (x ∷ xs) ≡ ltb 0 (times a (x ∷ met))
unfolding before times
before-by x xs met a b true t e f first rest = rw e (sym (lt-ltb 0 (1 + times a met) (omega arith)))
before-by x xs met a b false true e f first rest = absurd (omega (arith, times-here b met, ap (λ (m : ℕ). times b (m ∷ met)) (eqb-true x b f)))
before-by x xs met a b false false e f first rest =
    rw (e, f) (rest (omega (arith, times-past b x met (eqb-false x b f))) ∙ ap (ltb 0) (sym (zero-add (times a met))))

-- where b stands at j for the first time, a is met before it if it is among the j members there
pub before-is : (list : List ℕ) (j a b : ℕ) → j < length list → get_or list j 0 ≡ b → times b (take j list) ≡ 0 → (a ≡ b → ⊥) → before a b list ≡ ltb 0 (times a (take j list))
unfolding before times
before-is [] j a b p e first other = absurd (omega arith)
before-is (x ∷ xs) zero a b p e first other = rw (ne_eqb x a (λ q. other (sym q ∙ e)), eq-eqb x b e)
before-is (x ∷ xs) (suc j) a b p e first other =
    before-by x xs (take j xs) a b (eqb x a) (eqb x b) refl refl first (λ none. before-is xs j a b (omega arith) e none other)

pub before-around : (a b : ℕ) (front back : List ℕ) → times b front ≡ 0 → (a ≡ b → ⊥) → before a b (front ++ b ∷ back) ≡ ltb 0 (times a front)
before-around a b front back first other =
    let met = take-append_seam front (b ∷ back) in
    before-is (front ++ b ∷ back) (length front) a b (simp length-append (omega arith)) (get_or-append_seam front b back 0) (ap (times b) met ∙ first) other
    ∙ ap (λ (l : List ℕ). ltb 0 (times a l)) met

-- a member that is neither of the two can be left out
pub before-without : (a b x : ℕ) (front back : List ℕ) → (x ≡ a → ⊥) → (x ≡ b → ⊥) → before a b (front ++ x ∷ back) ≡ before a b (front ++ back)
unfolding before
before-without a b x [] back ha hb = rw (ne_eqb x a ha, ne_eqb x b hb)
before-without a b x (y ∷ front) back ha hb =
    ap (λ (t : Bool). cond (eqb y a) true (cond (eqb y b) false t)) (before-without a b x front back ha hb)

-- whether all earlier neighbours of b are among the members met so far
unfoldable pub ready : ℕ → List ℕ → ℕ → Bool
ready across met b = all_earlier across b (λ a. ltb 0 (times a met))

-- whether each of the first i members was ready in its turn
unfoldable pub in_turn : ℕ → ℕ → List ℕ → Bool
in_turn across i list = all_below i (λ j. ready across (take j list) (get_or list j 0))

module _ (n : ℕ) (list : List ℕ) (h : names_each n list ≡ true) where
  -- a test of every member, in turn, is one of every number
  members : (test : ℕ → Bool) → all_below (length list) (λ j. test (get_or list j 0)) ≡ all_below n test
  members test =
      let turns : ℕ → Bool = λ j. test (get_or list j 0) in
      same (all_below (length list) turns) (all_below n test)
      (λ e. below_of n test (λ b p. in_member list test (in_of list test (below_at (length list) turns e)) b (omega (arith, names_once n list h b p))))
      (λ e. below_of (length list) turns (λ j p. below_at n test e (get_or list j 0) (names_below n list h j p)))

  first-place : (j : ℕ) → j < length list → times (get_or list j 0) (take j list) ≡ 0
  first-place j p =
      let b = get_or list j 0 in
      omega (arith, names_once n list h b (names_below n list h j p), times-split b j list p, times-here b (drop (suc j) list))

  ready_is : (across j : ℕ) → j < length list → ready across (take j list) (get_or list j 0) ≡ all_earlier across (get_or list j 0) (λ a. before a (get_or list j 0) list)
  unfolding ready
  ready_is across j p =
      let b = get_or list j 0 in
      earlier-same across b (λ a. ltb 0 (times a (take j list))) (λ a. before a b list)
      (λ a q. sym (before-is list j a b p refl (first-place j p) (λ e. omega arith)))

  -- a list that names each keeps raster order where each member comes in turn
  pub turn_is : (across : ℕ) → in_turn across (length list) list ≡ keeps_raster across n list
  unfolding in_turn keeps_raster
  turn_is across =
      below_same (length list) (λ j. ready across (take j list) (get_or list j 0)) (λ j. all_earlier across (get_or list j 0) (λ a. before a (get_or list j 0) list)) (ready_is across)
      ∙ members (λ b. all_earlier across b (λ a. before a b list))
