-- `compare::cells::next_differing` meets its contract: the first place from i on is the first of all.
use Rattle.std.proofs.Common.{arith, sym, ◌∙◌}
use Rattle.compare.proofs.DifferLaws.{find_none, find_here, find_past}
use Rattle.compare.proofs.cells.next_differing.Goals as goal

pub loop-i-preserved : goal.loop-i-preserved
loop-i-preserved c = c.loop-i.invariant ∙ find_past _ _ _ c.loop-i-test.true (sym c.differs_at.ensures ∙ c.if-differs_at.false)

pub returns-then-differs_at : goal.returns-then-differs_at
returns-then-differs_at c = sym (c.loop-i.invariant ∙ find_here _ _ _ c.loop-i-test.true (sym c.differs_at.ensures ∙ c.if-differs_at.true))

pub returns : goal.returns
returns c = sym (c.loop-i.invariant ∙ find_none _ c.loop-i.i c.args.to (omega (arith, c.loop-i-test.false)))
