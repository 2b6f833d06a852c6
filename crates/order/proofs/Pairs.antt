-- The test of a list, in propositions: which lists it refuses with 6, which with 7, and that it takes the others. Assumes nothing.
use mathlib.Core.Path.{◌≡◌, sym, ap, ◌∙◌}
use mathlib.Core.Logic.{⊎_elim}
use mathlib.Core.Bool.{true, false, true≢false}
use mathlib.Core.List.{List, ◌∷◌, ◌++◌}
use Prim.Native.Nat.{ℕ, ◌+◌, ◌*◌, ◌<◌}
use native.Mathlib.Nat.{eq-zero-or-pos}
use native.Mathlib.Omega.{arith}
use borrow.Author.Tests.{ltb-true, lt-ltb}
use lib.Dec.{ltb}
use lib.ListN.{length, get_or, length-append}
use lib.Seq.{get_or-append_seam}
use Rattle.ground.proofs.TestLaws.{tested, not_so}
use Rattle.ground.proofs.EveryLaws.{below_at}
use Rattle.order.specs.List.{times, names_each, before, shares_edge, all_earlier, keeps_raster, list_refusal}
use Rattle.order.specs.Pairs.{NamesOnce, Against, ListTest}
use Rattle.order.proofs.EdgeLaws.{earlier-at}
use Rattle.order.proofs.TimesLaws.{times-here, times-past, times-append, around, names_once, names_below, names_long, names_by, below_in}
use Rattle.order.proofs.OrderLaws.{before-around}
use Rattle.order.proofs.Accepted.{accepted-of}

named : {n : ℕ} {list : List ℕ} → NamesOnce n list → names_each n list ≡ true
named {n} {list} h = names_by n list h.once (below_in n list h.only)

module _ {across n : ℕ} {list : List ℕ} (h : NamesOnce n list) where
  -- where b stands before a, a is not met before b
  module _ (t : Against across list) where
    abbrev after : List ℕ
    after = t.middle ++ t.a ∷ t.back

    there : t.b < n
    there =
        let place : length t.front < length list = rw t.turned (simp length-append (omega arith)) in
        let here = ap (λ (l : List ℕ). get_or l (length t.front) 0) t.turned ∙ get_or-append_seam t.front t.b after 0 in
        omega (arith, here, h.only (length t.front) place)

    often : (k : ℕ) → times k list ≡ times k t.front + times k (t.b ∷ after)
    often k = ap (times k) t.turned ∙ times-append k t.front (t.b ∷ after)

    first-b : times t.b t.front ≡ 0
    first-b = omega (arith, h.once t.b there, often t.b, times-here t.b after)

    later-a : times t.a t.front ≡ 0
    later-a =
        let past = times-past t.a t.b after (λ e. omega (arith, t.earlier)) in
        let inside = times-append t.a t.middle (t.a ∷ t.back) in
        omega (arith, h.once t.a (omega (arith, t.earlier, there)), often t.a, past, inside, times-here t.a t.back)

    unmet : before t.a t.b list ≡ ltb 0 (times t.a t.front)
    unmet = ap (before t.a t.b) t.turned ∙ before-around t.a t.b t.front after first-b (λ e. omega (arith, t.earlier))

    pub against : keeps_raster across n list ≡ true → ⊥
    unfolding keeps_raster
    against kept =
        let each = below_at n (λ b. all_earlier across b (λ a. before a b list)) kept t.b there in
        let met = earlier-at across t.b (λ a. before a t.b list) each t.a t.earlier t.shares in
        omega (arith, ltb-true 0 (times t.a t.front) (sym unmet ∙ met), later-a)

  -- where a is not met before b, b stands before a
  module _ (a b : ℕ) (p : a < b) (q : b < n) (e : shares_edge across a b ≡ true) where
    turned_by : before a b list ≡ false → Against across list
    turned_by unmet =
        let at_b = around b list (omega (arith, h.once b q)) in
        let met = sym (before-around a b at_b.front at_b.back at_b.first (λ s. omega arith)) ∙ ap (before a b) (sym at_b.whole) ∙ unmet in
        let none : times a at_b.front ≡ 0 = ⊎_elim (λ z. z) (λ some. absurd (true≢false (sym (lt-ltb 0 (times a at_b.front) some) ∙ met))) (eq-zero-or-pos (times a at_b.front)) in
        let often = ap (times a) at_b.whole ∙ times-append a at_b.front (b ∷ at_b.back) in
        let at_a = around a at_b.back (omega (arith, h.once a (omega arith), often, none, times-past a b at_b.back (λ s. omega arith))) in
        record {
          a = a;
          b = b;
          earlier = p;
          shares = e;
          front = at_b.front;
          middle = at_a.front;
          back = at_a.back;
          turned = at_b.whole ∙ ap (λ (l : List ℕ). at_b.front ++ b ∷ l) at_a.whole;
        }

    pub kept_by : (Against across list → ⊥) → before a b list ≡ true
    kept_by none = ⊎_elim (λ met. met) (λ unmet. absurd (none (turned_by unmet))) (tested (before a b list))

pub list_test : ListTest
unfolding list_refusal
list_test across down list =
    let n = across * down in
    record {
      six = λ h.
          let no = not_so (names_each n list) (λ e. h (record { once = names_once n list e; only = names_below n list e })) in
          rw no;
      seven = λ h t.
          let kept = not_so (keeps_raster across n list) (against h t) in
          rw (named h, kept);
      taken = λ h none.
          accepted-of across down list (record { below = h.only; once = h.once; long = names_long n list (named h); kept = λ a b p q e. kept_by h a b p q e none });
    }
