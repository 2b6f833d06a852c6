-- Laws of folds: alike lists have the same fold where steps that share no edge commute, and an accepted list is alike to raster
-- order. Assumes nothing.
use mathlib.Core.Path.{◌≡◌, refl, sym, ap, subst, ◌∙◌}
use mathlib.Core.Logic.{◌⊎◌, inl, inr, ⊎_elim}
use mathlib.Core.Bool.{Bool, true, false}
use mathlib.Core.List.{List, [], ◌∷◌, ◌++◌, append_assoc}
use Prim.Native.Nat.{ℕ, ◌≤◌, ◌<◌}
use native.Mathlib.Nat.{eq-or-lt_of_le, eq-zero-or-pos}
use native.Mathlib.Omega.{arith}
use borrow.Author.Tests.{lt-ltb, eq-eqb}
use lib.Dec.{ltb, eqb}
use Rattle.ground.proofs.TestLaws.{tested, not_so}
use Rattle.order.specs.List.{times, before, shares_edge, raster}
use Rattle.order.specs.Fold.{fold_steps, Alike, Commute, SameFold}
use Rattle.order.proofs.EdgeLaws.{Follows, shares-follows}
use Rattle.order.proofs.TimesLaws.{times-here, times-append, around}
use Rattle.order.proofs.OrderLaws.{before-around, before-without}
use Rattle.order.proofs.Accepted.{Accepted, occurs_below, raster-accepted}

true-false : {t : Bool} → t ≡ true → t ≡ false → ⊥
true-false p q = let z : ◌≡◌ {A = ℕ} 0 1 = cc in omega arith

-- a number that occurs and one that does not are two
apart_by : (a b : ℕ) (xs : List ℕ) → times a xs ≡ 0 → 0 < times b xs → a ≡ b → ⊥
apart_by a b xs none some e = omega (arith, ap (λ (m : ℕ). times m xs) e)

none_in : (xs : List ℕ) → ((k : ℕ) → times k xs ≡ 0) → xs ≡ []
none_in [] h = refl
none_in (x ∷ xs) h = absurd (omega (arith, h x, times-here x xs))

before-first : (a b : ℕ) (xs : List ℕ) → before a b (a ∷ xs) ≡ true
unfolding before
before-first a b xs = rw (eq-eqb a a refl)

-- b stands in front and a does not
before-missed : (a b : ℕ) (front back : List ℕ) → times a front ≡ 0 → 0 < times b front → before a b (front ++ back) ≡ false
before-missed a b front back none some =
    let it = around b front some in
    let before-b : times a it.front ≡ 0 = omega (arith, times-append a it.front (b ∷ it.back), ap (times a) it.whole) in
    ap (λ (l : List ℕ). before a b (l ++ back)) it.whole ∙ ap (before a b) (append_assoc it.front (b ∷ it.back) back)
    ∙ before-around a b it.front (it.back ++ back) it.first (apart_by a b front none some) ∙ ap (ltb 0) before-b

before_self : (a : ℕ) (xs : List ℕ) → 0 < times a xs → before a a xs ≡ true
unfolding before times
before_self a [] p = absurd (omega arith)
before_self a (x ∷ xs) p =
    ⊎_elim (λ e. rw e) (λ e. rw e (before_self a xs (omega (arith, rw e at p)))) (tested (eqb x a))

-- a step moves forward past steps that it commutes with
fold_forward : {G : Type 0} (step : ℕ → G → G) (x : ℕ) (front back : List ℕ) → ((k : ℕ) → 0 < times k front → (g : G) → step x (step k g) ≡ step k (step x g)) → (g : G) → fold_steps step (front ++ x ∷ back) g ≡ fold_steps step (front ++ back) (step x g)
unfolding fold_steps times
fold_forward step x [] back free g = refl
fold_forward step x (y ∷ front) back free g =
    fold_forward step x front back (λ k p. free k (omega arith)) (step y g)
    ∙ ap (fold_steps step (front ++ back)) (free y (omega (arith, times-here y front)) g)

-- the first of the one list, and the other around it
module _ (shares : ℕ → ℕ → Bool) (x : ℕ) (xs front back : List ℕ) (first : times x front ≡ 0) (h : Alike shares (x ∷ xs) (front ++ x ∷ back)) where
  front-in : (k : ℕ) → 0 < times k front → 0 < times k (x ∷ xs)
  front-in k p = omega (arith, h.members k, times-append k front (x ∷ back))

  first-in : 0 < times x (x ∷ xs)
  first-in = omega (arith, times-here x xs)

  -- what stands in front of it shares no edge with it
  free_after : (k : ℕ) → 0 < times k front → shares x k ≡ false
  free_after k p =
      not_so (shares x k)
      (λ e. true-false (sym (h.ordered x k first-in (front-in k p) e) ∙ before-first x k xs) (before-missed x k front (x ∷ back) first p))

  free_before : (k : ℕ) → 0 < times k front → shares k x ≡ false
  unfolding times
  free_before k p =
      let other : k ≡ x → ⊥ = λ e. apart_by x k front first p (sym e) in
      let met = before-around k x front back first other ∙ lt-ltb 0 (times k front) p in
      not_so (shares k x) (λ e. true-false (h.ordered k x (front-in k p) first-in e ∙ met) (before-around k x [] xs refl other))

  -- so that its step can be the first there too
  fold_first : {G : Type 0} (step : ℕ → G → G) → Commute shares step (x ∷ xs) → (g : G) → fold_steps step (front ++ x ∷ back) g ≡ fold_steps step (front ++ back) (step x g)
  fold_first step free =
      fold_forward step x front back
      (λ k p. free x k first-in (front-in k p) (apart_by x k front first p) (free_after k p) (free_before k p))

  times-rest : (k : ℕ) → times k xs ≡ times k (front ++ back)
  unfolding times
  times-rest k = omega (arith, h.members k, times-append k front (x ∷ back), times-append k front back)

  rest_other : (k : ℕ) → 0 < times k xs → x ≡ k → ⊥
  rest_other k = apart_by x k xs (omega (arith, times-here x xs, h.once x))

  rest_in : (k : ℕ) → 0 < times k xs → 0 < times k (x ∷ xs)
  unfolding times
  rest_in k p = omega arith

  rest_alike : Alike shares xs (front ++ back)
  unfolding times
  rest_alike =
      record {
        once = λ k. omega (arith, h.once k);
        members = times-rest;
        ordered = λ a b p q e.
            sym (before-without a b x [] xs (rest_other a p) (rest_other b q)) ∙ h.ordered a b (rest_in a p) (rest_in b q) e
            ∙ before-without a b x front back (rest_other a p) (rest_other b q);
      }

pub same_fold : SameFold
unfolding fold_steps times
same_fold G shares step [] ys h free g = ap (λ (l : List ℕ). fold_steps step l g) (sym (none_in ys (λ k. sym (h.members k))))
same_fold G shares step (x ∷ xs) ys h free g =
    let it = around x ys (omega (arith, h.members x, times-here x xs)) in
    let same = subst (Alike shares (x ∷ xs)) it.whole h in
    let rest = rest_alike shares x xs it.front it.back it.first same in
    same_fold G shares step xs (it.front ++ it.back) rest (λ a b p q. free a b (omega arith) (omega arith)) (step x g)
    ∙ sym (fold_first shares x xs it.front it.back it.first same step free g)
    ∙ ap (λ (l : List ℕ). fold_steps step l g) (sym it.whole)

follows_le : (across a b : ℕ) → Follows across a b → a ≤ b
follows_le across a b (inl w) = omega (arith, w.0)
follows_le across a b (inr e) = omega arith

-- two accepted lists are alike
module _ (across n : ℕ) (xs ys : List ℕ) (h : Accepted across n xs) (i : Accepted across n ys) where
  times-by : (k : ℕ) → (times k xs ≡ 0) ⊎ (0 < times k xs) → (times k ys ≡ 0) ⊎ (0 < times k ys) → times k xs ≡ times k ys
  times-by k (inl p) (inl q) = p ∙ sym q
  times-by k (inl p) (inr q) = h.once k (occurs_below i k q) ∙ sym (i.once k (occurs_below i k q))
  times-by k (inr p) s = h.once k (occurs_below h k p) ∙ sym (i.once k (occurs_below h k p))

  once_by : (k : ℕ) → (times k xs ≡ 0) ⊎ (0 < times k xs) → times k xs ≤ 1
  once_by k (inl p) = omega arith
  once_by k (inr p) = omega (arith, h.once k (occurs_below h k p))

  times-same : (k : ℕ) → times k xs ≡ times k ys
  times-same k = times-by k (eq-zero-or-pos (times k xs)) (eq-zero-or-pos (times k ys))

  ordered-by : (a b : ℕ) → 0 < times a xs → 0 < times b xs → shares_edge across a b ≡ true → (a ≡ b) ⊎ (a < b) → before a b xs ≡ before a b ys
  ordered-by a b p q e (inl s) =
      subst (λ (m : ℕ). before a m xs ≡ before a m ys) s (before_self a xs p ∙ sym (before_self a ys (omega (arith, times-same a))))
  ordered-by a b p q e (inr s) = h.kept a b s (occurs_below h b q) e ∙ sym (i.kept a b s (occurs_below h b q) e)

  pub both_alike : Alike (shares_edge across) xs ys
  both_alike =
      record {
        once = λ k. once_by k (eq-zero-or-pos (times k xs));
        members = times-same;
        ordered = λ a b p q e. ordered-by a b p q e (eq-or-lt_of_le (follows_le across a b (shares-follows across a b e)));
      }

pub accepted-alike : (across n : ℕ) (list : List ℕ) → Accepted across n list → Alike (shares_edge across) list (raster n)
accepted-alike across n list h = both_alike across n list (raster n) h (raster-accepted across n)

pub accepted-folds : {G : Type 0} (across n : ℕ) (list : List ℕ) → Accepted across n list → (step : ℕ → G → G) → ((a b : ℕ) → a < n → b < n → (a ≡ b → ⊥) → shares_edge across a b ≡ false → shares_edge across b a ≡ false → (g : G) → step a (step b g) ≡ step b (step a g)) → (g : G) → fold_steps step list g ≡ fold_steps step (raster n) g
accepted-folds {G} across n list h step free =
    same_fold G (shares_edge across) step list (raster n) (accepted-alike across n list h)
    (λ a b p q. free a b (occurs_below h a p) (occurs_below h b q))
