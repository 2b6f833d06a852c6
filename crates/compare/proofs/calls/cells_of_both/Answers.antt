-- `compare::calls::cells_of_both` meets its contract: each return has the tests before it passed. Assumes nothing.
use borrow.Author.Tests.{eq-eqb, ne_eqb, le-leb, lt-leb}
use mathlib.Core.Path.{refl, sym, ◌∙◌}
use native.Mathlib.Omega.{arith}
use Rattle.refusal.specs.Refusals.{refuse, ◌then◌}
use Rattle.refusal.proofs.RefusalLaws.{first-is, then_later}
use Rattle.compare.specs.Answer.{compare_refusal}
use Rattle.compare.proofs.AnswerLaws.{room_decides}
use Rattle.compare.proofs.calls.cells_of_both.Goals.{then-first-second-via-then-first-second, then-first-second-via-else-first-second+then-first-second-2}
use Rattle.compare.proofs.calls.cells_of_both.Goals as goal

pub returns-then-first-ne0 : goal.returns-then-first-ne0
unfolding compare_refusal
returns-then-first-ne0 c = (first-is _ refl c.if-first-ne0.true, omega arith)

pub returns-then-second-ne0 : goal.returns-then-second-ne0
unfolding compare_refusal
returns-then-second-ne0 c = (first-is _ refl c.if-second-ne0.true ∙ sym (then_later _ _ c.if-first-ne0.false), omega arith)

pub returns-then-first-second : goal.returns-then-first-second
unfolding compare_refusal refuse ◌then◌
returns-then-first-second c =
    elim c.then-first-second.branch [
      | then-first-second-via-then-first-second w ↦ rw (c.if-first-ne0.false, c.if-second-ne0.false, ne_eqb _ _ w.if-first-second.true) (c.number.ensures, omega arith)
      | then-first-second-via-else-first-second+then-first-second-2 w ↦ rw (c.if-first-ne0.false, c.if-second-ne0.false, eq-eqb _ _ w.if-first-second.false, ne_eqb _ _ w.if-first-second-2.true) (c.number.ensures, omega arith)
    ]

pub returns-then-min-cells : goal.returns-then-min-cells
unfolding refuse
returns-then-min-cells c =
    let a = c.args in
    let refused = room_decides a.first a.first_room a.second a.second_room c.if-first-ne0.false c.if-second-ne0.false c.if-first-second.false c.if-first-second-2.false in
    rw (refused, ← c.min.ensures, lt-leb _ _ c.if-min-cells.true) (c.number-then-min-cells.ensures, omega arith)

pub returns : goal.returns
unfolding refuse
returns c =
    let a = c.args in
    let held = room_decides a.first a.first_room a.second a.second_room c.if-first-ne0.false c.if-second-ne0.false c.if-first-second.false c.if-first-second-2.false in
    (rw (held, ← c.min.ensures, le-leb _ _ c.if-min-cells.false), refl, omega arith, omega arith)
