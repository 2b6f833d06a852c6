-- Laws of how often numbers occur, and that a list of n numbers below n, none of them twice, names each. Assumes nothing.
use mathlib.Core.Path.{◌≡◌, refl, sym, ap, ap₂, subst, ◌∙◌}
use mathlib.Core.Logic.{⊎_elim}
use mathlib.Core.Bool.{Bool, true, false, ◌&&◌}
use mathlib.Core.List.{List, [], ◌∷◌, ◌++◌}
use Prim.Native.Nat.{ℕ, zero, suc, ◌+◌, ◌≤◌, ◌<◌}
use native.Mathlib.Nat.{eq-or-lt_of_le, le_of_suc-le-suc}
use native.Mathlib.Numerals.{add-one}
use native.Mathlib.Omega.{arith}
use borrow.Author.Tests.{ltb-true, lt-ltb, eqb-true, eqb-false, eq-eqb, ne_eqb}
use lib.Dec.{ltb, eqb}
use lib.ListN.{length, get_or, take, drop, take-append-drop}
use lib.Seq.{take-suc, drop-cons}
use Rattle.ground.specs.Every.{all_below, all_in}
use Rattle.ground.proofs.TestLaws.{both, tested}
use Rattle.ground.proofs.EveryLaws.{below_at, below_of, in_at, in_of}
use Rattle.order.specs.List.{times, names_each}

pub times-here : (n : ℕ) (xs : List ℕ) → times n (n ∷ xs) ≡ suc (times n xs)
unfolding times
times-here n xs = rw (eq-eqb n n refl) (omega arith)

pub times-past : (n x : ℕ) (xs : List ℕ) → (x ≡ n → ⊥) → times n (x ∷ xs) ≡ times n xs
unfolding times
times-past n x xs h = rw (ne_eqb x n h) (omega arith)

pub times-append : (n : ℕ) (xs ys : List ℕ) → times n (xs ++ ys) ≡ times n xs + times n ys
unfolding times
times-append n [] ys = omega arith
times-append n (x ∷ xs) ys = omega (arith, times-append n xs ys)

-- one member more is passed
pub times_more : (n i : ℕ) (list : List ℕ) → i < length list → times n (take (i + 1) list) ≡ times n (take i list) + times n (get_or list i 0 ∷ [])
times_more n i list p = rw (add-one, take-suc list i 0) (times-append n (take i list) (get_or list i 0 ∷ []))

-- what is passed, the member at i and the rest
pub times-split : (n i : ℕ) (list : List ℕ) → i < length list → times n list ≡ times n (take i list) + times n (get_or list i 0 ∷ drop (suc i) list)
times-split n i list p =
    ap (times n) (sym (take-append-drop i list)) ∙ times-append n (take i list) (drop i list)
    ∙ ap (λ (l : List ℕ). times n (take i list) + times n l) (drop-cons list i 0 p)

pub member_occurs : (list : List ℕ) (i : ℕ) → i < length list → 0 < times (get_or list i 0) list
member_occurs list i p = omega (arith, times-split (get_or list i 0) i list p, times-here (get_or list i 0) (drop (suc i) list))

-- what stands before and after the first b of a list
pub record Around (b : ℕ) (list : List ℕ) : Type 0 where
  pub front : List ℕ
  pub back : List ℕ
  pub whole : list ≡ front ++ b ∷ back
  pub first : times b front ≡ 0

around_by : (b x : ℕ) (xs : List ℕ) (t : Bool) → eqb x b ≡ t → (0 < times b xs → Around b xs) → 0 < times b (x ∷ xs) → Around b (x ∷ xs)
unfolding times
around_by b x xs true e rest p =
    record { front = []; back = xs; whole = ap (λ (m : ℕ). m ∷ xs) (eqb-true x b e); first = refl }
around_by b x xs false e rest p =
    let past : (ys : List ℕ) → times b (x ∷ ys) ≡ times b ys = λ ys. times-past b x ys (eqb-false x b e) in
    let later = rest (omega (arith, past xs)) in
    record {
      front = x ∷ later.front;
      back = later.back;
      whole = ap (λ (l : List ℕ). x ∷ l) later.whole;
      first = past later.front ∙ later.first;
    }

pub around : (b : ℕ) (list : List ℕ) → 0 < times b list → Around b list
unfolding times
around b [] p = absurd (omega arith)
around b (x ∷ xs) p = around_by b x xs (eqb x b) refl (around b xs) p

-- how often the numbers below n occur in a list, together
unfoldable occurrences : ℕ → List ℕ → ℕ
occurrences zero list = 0
occurrences (suc n) list = occurrences n list + times n list

occur_none : (n : ℕ) → occurrences n [] ≡ 0
unfolding occurrences times
occur_none zero = refl
occur_none (suc n) = omega (arith, occur_none n)

occur_past : (n x : ℕ) (xs : List ℕ) → n ≤ x → occurrences n (x ∷ xs) ≡ occurrences n xs
unfolding occurrences
occur_past zero x xs h = refl
occur_past (suc n) x xs h =
    omega (arith, occur_past n x xs (omega arith), times-past n x xs (λ e. omega arith))

occur_here : (n x : ℕ) (xs : List ℕ) → x < n → occurrences n (x ∷ xs) ≡ suc (occurrences n xs)
unfolding occurrences
occur_here zero x xs h = absurd (omega arith)
occur_here (suc n) x xs h =
    ⊎_elim
    (λ e. omega (arith, occur_past n x xs (omega arith), ap (λ (m : ℕ). times n (m ∷ xs)) e, times-here n xs))
    (λ p. omega (arith, occur_here n x xs p, times-past n x xs (λ e. omega arith)))
    (eq-or-lt_of_le (le_of_suc-le-suc h))

occur_all : (n : ℕ) (list : List ℕ) → all_in list (λ k. ltb k n) ≡ true → occurrences n list ≡ length list
unfolding all_in
occur_all n [] h = occur_none n
occur_all n (x ∷ xs) h =
    let parts = both (ltb x n) (all_in xs (λ k. ltb k n)) h in
    omega (arith, occur_here n x xs (ltb-true x n parts.0), occur_all n xs parts.1)

occur_once : (n : ℕ) (list : List ℕ) → ((k : ℕ) → k < n → times k list ≡ 1) → occurrences n list ≡ n
unfolding occurrences
occur_once zero list h = refl
occur_once (suc n) list h = omega (arith, occur_once n list (λ k p. h k (omega arith)), h n (omega arith))

occur_most : (n : ℕ) (list : List ℕ) → ((k : ℕ) → times k list ≤ 1) → occurrences n list ≤ n
unfolding occurrences
occur_most zero list h = omega arith
occur_most (suc n) list h = omega (arith, occur_most n list h, h n)

occur_each : (n : ℕ) (list : List ℕ) → ((k : ℕ) → times k list ≤ 1) → occurrences n list ≡ n → (k : ℕ) → k < n → times k list ≡ 1
unfolding occurrences
occur_each zero list h e k p = absurd (omega arith)
occur_each (suc n) list h e k p =
    let most = occur_most n list h in
    let last = h n in
    ⊎_elim
    (λ q. ap (λ (m : ℕ). times m list) q ∙ omega arith)
    (λ q. occur_each n list h (omega arith) k q)
    (eq-or-lt_of_le (le_of_suc-le-suc p))

-- what naming each gives
module _ (n : ℕ) (list : List ℕ) (h : names_each n list ≡ true) where
  pub names_once : (k : ℕ) → k < n → times k list ≡ 1
  unfolding names_each
  names_once k p =
      eqb-true (times k list) 1 (below_at n (λ k. eqb (times k list) 1) (both (all_below n (λ k. eqb (times k list) 1)) (all_in list (λ k. ltb k n)) h).0 k p)

  pub names_in : all_in list (λ k. ltb k n) ≡ true
  unfolding names_each
  names_in = (both (all_below n (λ k. eqb (times k list) 1)) (all_in list (λ k. ltb k n)) h).1

  pub names_below : (i : ℕ) → i < length list → get_or list i 0 < n
  names_below i p = ltb-true (get_or list i 0) n (in_at list (λ k. ltb k n) names_in i p)

  pub names_long : length list ≡ n
  names_long = sym (occur_all n list names_in) ∙ occur_once n list names_once

pub names_by : (n : ℕ) (list : List ℕ) → ((k : ℕ) → k < n → times k list ≡ 1) → all_in list (λ k. ltb k n) ≡ true → names_each n list ≡ true
unfolding names_each
names_by n list once inside =
    ap₂ (λ (s t : Bool). s && t) (below_of n (λ k. eqb (times k list) 1) (λ k p. eq-eqb (times k list) 1 (once k p))) inside

pub below_in : (n : ℕ) (list : List ℕ) → ((i : ℕ) → i < length list → get_or list i 0 < n) → all_in list (λ k. ltb k n) ≡ true
below_in n list below = in_of list (λ k. ltb k n) (λ i p. lt-ltb (get_or list i 0) n (below i p))

-- a list of n numbers below n, none of them twice, names each
pub names_of : (n : ℕ) (list : List ℕ) → length list ≡ n → ((k : ℕ) → times k list ≤ 1) → ((i : ℕ) → i < length list → get_or list i 0 < n) → names_each n list ≡ true
names_of n list long once below =
    let inside = below_in n list below in
    names_by n list (occur_each n list once (occur_all n list inside ∙ long)) inside

-- what holds of every member holds of what occurs
pub in_member : (list : List ℕ) (test : ℕ → Bool) → all_in list test ≡ true → (b : ℕ) → 0 < times b list → test b ≡ true
unfolding all_in times
in_member [] test h b p = absurd (omega arith)
in_member (x ∷ xs) test h b p =
    let parts = both (test x) (all_in xs test) h in
    ⊎_elim
    (λ e. subst (λ (m : ℕ). test m ≡ true) (eqb-true x b e) parts.0)
    (λ e. in_member xs test parts.1 b (omega (arith, times-past b x xs (eqb-false x b e))))
    (tested (eqb x b))
