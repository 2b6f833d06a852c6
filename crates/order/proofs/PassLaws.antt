-- Laws of one pass over a list with a table of what was seen: its turns, its ways out and its end. Assumes nothing.
use mathlib.Core.Path.{◌≡◌, refl, sym, ap, ap₂, subst, ◌∙◌}
use mathlib.Core.Logic.{⊎_elim}
use mathlib.Core.Bool.{Bool, true, false, cond, ◌&&◌, false≢true}
use mathlib.Core.List.{List, []}
use Prim.Native.Nat.{ℕ, suc, ◌+◌, ◌*◌, ◌≤◌, ◌<◌}
use native.Mathlib.Nat.{eq-zero-or-pos}
use native.Mathlib.Numerals.{add-one}
use native.Mathlib.Omega.{arith}
use borrow.Author.Count.{below_more}
use borrow.Author.Tests.{lt-ltb, eqb-true, eqb-false}
use lib.Dec.{ltb, eqb}
use lib.ListN.{length, get_or, take, drop, set, replicate, length-set, get_or-replicate}
use lib.Seq.{take-length, get_or-set_same, get_or-set_other}
use Rattle.ground.specs.Every.{all_below}
use Rattle.ground.proofs.TestLaws.{tested, not_so}
use Rattle.order.specs.List.{most_superblocks, times, names_each, all_earlier, list_refusal}
use Rattle.order.proofs.EdgeLaws.{earlier-same}
use Rattle.order.proofs.TimesLaws.{times-here, times-past, times_more, times-split, names_once, names_below, names_long, names_of}
use Rattle.order.proofs.OrderLaws.{ready, in_turn, turn_is}

-- a pass over the first i members of a list: the table holds which numbers occurred, none twice
pub record Pass (across n : ℕ) (list : List ℕ) (i : ℕ) (seen : List Bool) (answer : ℕ) : Type 0 where
  pub long : length seen ≡ most_superblocks
  pub held : (k : ℕ) → k < most_superblocks → get_or seen k false ≡ ltb 0 (times k (take i list))
  pub once : (k : ℕ) → times k (take i list) ≤ 1
  pub below : (j : ℕ) → j < i → get_or list j 0 < n
  pub turn : answer ≡ cond (in_turn across i list) 0 7

pub pass_none : (across n : ℕ) (list : List ℕ) → Pass across n list 0 (replicate most_superblocks false) 0
unfolding in_turn all_below times
pass_none across n list =
    record {
      long = refl;
      held = λ k p. get_or-replicate most_superblocks k false false p;
      once = λ k. omega arith;
      below = λ j p. absurd (omega arith);
      turn = refl;
    }

answer-by : (s t : Bool) → ◌≡◌ {A = ℕ} (cond t (cond s 0 7) 7) (cond (s && t) 0 7)
answer-by true true = refl
answer-by true false = refl
answer-by false true = refl
answer-by false false = refl

turn_more : (across i : ℕ) (list : List ℕ) → in_turn across (i + 1) list ≡ in_turn across i list && ready across (take i list) (get_or list i 0)
unfolding in_turn all_below
turn_more across i list = ap (λ (m : ℕ). all_below m (λ j. ready across (take j list) (get_or list j 0))) (add-one i)

-- a superblock that was not seen is passed
module _ (across n : ℕ) (list : List ℕ) (i : ℕ) (seen : List Bool) (answer : ℕ) (pass : Pass across n list i seen answer) (some : i < length list) (fits : n ≤ most_superblocks) (inside : get_or list i 0 < n) (new : get_or seen (get_or list i 0) false ≡ false) where
  none_yet : times (get_or list i 0) (take i list) ≡ 0
  none_yet =
      let b = get_or list i 0 in
      ⊎_elim (λ z. z) (λ p. absurd (false≢true (sym new ∙ pass.held b (omega arith) ∙ lt-ltb 0 _ p))) (eq-zero-or-pos (times b (take i list)))

  times-new : times (get_or list i 0) (take (i + 1) list) ≡ 1
  unfolding times
  times-new =
      let b = get_or list i 0 in
      omega (arith, times_more b i list some, times-here b [], none_yet)

  times-old : (k : ℕ) → (k ≡ get_or list i 0 → ⊥) → times k (take (i + 1) list) ≡ times k (take i list)
  unfolding times
  times-old k other = omega (arith, times_more k i list some, times-past k (get_or list i 0) [] (λ e. other (sym e)))

  table_ready : all_earlier across (get_or list i 0) (λ a. get_or seen a false) ≡ ready across (take i list) (get_or list i 0)
  unfolding ready
  table_ready =
      earlier-same across (get_or list i 0) (λ a. get_or seen a false) (λ a. ltb 0 (times a (take i list))) (λ a p. pass.held a (omega arith))

  pub pass_more : (r : Bool) (next : ℕ) → r ≡ all_earlier across (get_or list i 0) (λ a. get_or seen a false) → next ≡ cond r answer 7 → Pass across n list (i + 1) (set seen (get_or list i 0) true) next
  pass_more r next said given =
      let b = get_or list i 0 in
      let here : b < length seen = omega (arith, pass.long) in
      let met = said ∙ table_ready in
      record {
        long = length-set seen b true ∙ pass.long;
        held = λ k p.
            ⊎_elim
            (λ e. rw (eqb-true k b e) (get_or-set_same seen b true false here ∙ sym (lt-ltb 0 _ (omega (arith, times-new)))))
            (λ e. get_or-set_other seen b k true false (eqb-false k b e) ∙ pass.held k p ∙ ap (ltb 0) (sym (times-old k (eqb-false k b e))))
            (tested (eqb k b));
        once = λ k.
            ⊎_elim
            (λ e. rw (eqb-true k b e) (omega (arith, times-new)))
            (λ e. omega (arith, times-old k (eqb-false k b e), pass.once k))
            (tested (eqb k b));
        below = below_more (λ (j : ℕ). get_or list j 0 < n) i pass.below inside;
        turn =
            given ∙ ap₂ (λ (t : Bool) (m : ℕ). cond t m 7) met pass.turn
            ∙ answer-by (in_turn across i list) (ready across (take i list) b) ∙ ap (λ (t : Bool). cond t 0 7) (sym (turn_more across i list));
      }

-- the three ways to a 6, and the end
module _ (across down : ℕ) (list : List ℕ) where
  refused : (names_each (across * down) list ≡ true → ⊥) → 6 ≡ list_refusal across down list
  unfolding list_refusal
  refused h = rw (not_so (names_each (across * down) list) h)

  pub wrong_length : (length list ≡ across * down → ⊥) → 6 ≡ list_refusal across down list
  wrong_length h = refused (λ e. h (names_long (across * down) list e))

  pub outside : (i : ℕ) → i < length list → across * down ≤ get_or list i 0 → 6 ≡ list_refusal across down list
  outside i p far = refused (λ e. omega (arith, names_below (across * down) list e i p))

  pub twice : (i : ℕ) → i < length list → get_or list i 0 < across * down → (times (get_or list i 0) (take i list) ≡ 0 → ⊥) → 6 ≡ list_refusal across down list
  twice i p inside again =
      let b = get_or list i 0 in
      refused (λ e. omega (arith, names_once (across * down) list e b inside, times-split b i list p, times-here b (drop (suc i) list)))

  pub pass_ends : (seen : List Bool) (answer : ℕ) → length list ≡ across * down → Pass across (across * down) list (length list) seen answer → answer ≡ list_refusal across down list
  unfolding list_refusal
  pass_ends seen answer long pass =
      let whole = take-length list in
      let named = names_of (across * down) list long (λ k. subst (λ (l : List ℕ). times k l ≤ 1) whole (pass.once k)) pass.below in
      rw (named, ← turn_is (across * down) list named across) pass.turn
