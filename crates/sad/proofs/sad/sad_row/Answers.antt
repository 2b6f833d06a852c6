-- `sad::sad::sad_row` meets its contract: what is left of the two rows has what is left of the sum.
use mathlib.Core.Path.{◌≡◌, ap, ap₂, ◌∙◌}
use mathlib.Core.List.{List}
use mathlib.Core.Logic.{inl, inr}
use Prim.Native.Nat.{ℕ}
use lib.ListN.{length}
use native.Mathlib.Omega.{arith}
use Rattle.sad.specs.Sad.{sad_row}
use Rattle.sad.proofs.Sums.{row-none, row-cons}
use Rattle.sad.proofs.sad.sad_row.Goals as goal

whole : List ℕ → List ℕ → ℕ
whole xs ys = sad_row xs 0 ys 0 (length xs)

pub loop-a-init : goal.loop-a-init
unfolding whole
loop-a-init c =
    let items = c.into_iter-a-iterator.ensures.into_iter_gives in
    let first : c.into_iter-a-iterator.result.a.rest.now ≡ c.args.cur.now = ap (λ (z : _). z.a.rest.now) items ∙ ap (λ (z : _). z.rest.now) c.zip-a-items.ensures.first ∙ c.iter.ensures.rest in
    let second : c.into_iter-a-iterator.result.b.rest.now ≡ c.args.reference.now = ap (λ (z : _). z.b.rest.now) items ∙ c.zip-a-items.ensures.second.0 in
    record {
      few = omega (arith, ap (length {A = ℕ}) first);
      level = omega (arith, ap (length {A = ℕ}) first, ap (length {A = ℕ}) second);
      rest = omega (arith, ap₂ whole first second);
    }

pub overflow_add-sum : goal.overflow_add-sum
overflow_add-sum c = omega (arith, ap (length {A = ℕ}) c.in-Some.ensures.steps.0)

pub loop-a-preserved : goal.loop-a-preserved
unfolding whole
loop-a-preserved c =
    let first = ap (length {A = ℕ}) c.in-Some.ensures.steps.0 in
    let second = ap (length {A = ℕ}) c.in-Some.ensures.steps.1 in
    let more = ap₂ whole c.in-Some.ensures.steps.0 c.in-Some.ensures.steps.1 ∙ row-cons c.in-Some.a.now c.in-Some.b.now c.next.new.self.a.rest.now c.next.new.self.b.rest.now (length c.next.new.self.a.rest.now) in
    record { few = omega (arith, first); level = omega (arith, first, second); rest = omega (arith, c.loop-a.invariant.rest, more, c.abs_diff-sum.ensures.difference) }

pub returns : goal.returns
returns c =
    let at = c.loop-a.a-iterator in
    let none : length at.a.rest.now ≡ 0 = elim c.in-None.ensures.steps [ inl (x, e) ↦ e.0 | inr (x, e) ↦ omega (arith, e.0) ] in
    record { few = omega arith; sum = omega (arith, c.loop-a.invariant.rest, ap (sad_row at.a.rest.now 0 at.b.rest.now 0) none, row-none at.a.rest.now 0 at.b.rest.now 0) }
