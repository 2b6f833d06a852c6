-- `compare::cells::count_differing` meets its contract: the places counted and those from i on are all.
use Rattle.std.proofs.Common.{arith, sym, ap, ◌∙◌, length}
use Rattle.grid.specs.Lent.{lent}
use Rattle.compare.proofs.DifferLaws.{none_left, differs_here, same_here, count_differs}
use Rattle.compare.proofs.cells.count_differing.Goals.{then-differs_at, else-differs_at}
use Rattle.compare.proofs.cells.count_differing.Goals as goal

pub loop-i-preserved : goal.loop-i-preserved
loop-i-preserved c =
    let turn = c.loop-i-test.true in
    elim c.if-differs_at.branch [
      | then-differs_at w ↦ let here = differs_here _ _ _ _ turn (sym c.differs_at.ensures ∙ w.if-differs_at.true) in omega (arith, ap length here)
      | else-differs_at w ↦ let past = same_here _ _ _ _ turn (sym c.differs_at.ensures ∙ w.if-differs_at.false) in omega (arith, ap length past)
    ]

pub returns : goal.returns
returns c =
    let f = lent c.args.first.now in
    let g = lent c.args.second.now in
    let none = none_left f g c.loop-i.i c.args.to (omega (arith, c.loop-i-test.false)) in
    omega (arith, c.loop-i.invariant.1, ap length none, count_differs f g c.args.from c.args.to)
