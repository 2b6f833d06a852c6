-- `held::bytes::mark_holds` meets its contract. Assumes nothing.
use borrow.Author.Tests.{le-leb, lt-leb}
use Rattle.std.proofs.Common.{sym, ◌∙◌}
use Rattle.gridfile.specs.Reading.{marked}
use Rattle.gridfile.proofs.TakenLaws.{past-mark}
use Rattle.held.proofs.bytes.mark_holds.Goals as goal

pub returns-then-place-ge2 : goal.returns-then-place-ge2
returns-then-place-ge2 c =
    le-leb 2 c.args.place c.if-place-ge2.true ∙ sym (past-mark c.args.place c.args.byte c.if-place-ge2.true)

pub returns-else-place-ge2 : goal.returns-else-place-ge2
unfolding marked
returns-else-place-ge2 c = rw (lt-leb 2 c.args.place c.if-place-ge2.false)
