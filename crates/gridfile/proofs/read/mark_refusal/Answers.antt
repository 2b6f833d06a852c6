-- `gridfile::read::mark_refusal` meets its contract: each return has the tests before it passed. Assumes nothing.
use Rattle.std.proofs.Common.{sym, arith}
use Rattle.gridfile.proofs.TakenLaws.{first-right, second-right, first_off, second-off}
use Rattle.gridfile.proofs.HeaderLaws.{mark-none, mark-first, mark-one, mark-second, mark-right}
use Rattle.gridfile.proofs.read.mark_refusal.Goals as goal

pub returns-in-empty : goal.returns-in-empty
returns-in-empty c = sym (mark-none c.args.bytes.now 0 (omega arith))

pub returns-in-len1-up : goal.returns-in-len1-up
returns-in-len1-up c = sym (mark-first c.args.bytes.now 0 c.in-len1-up.len_at_least (first_off _ c.if-first.true))

pub returns-in-len1 : goal.returns-in-len1
returns-in-len1 c =
    sym (mark-one c.args.bytes.now 0 c.in-len1-up.len_at_least (first-right _ c.if-first.false) (omega arith))

pub returns-in-len2-up : goal.returns-in-len2-up
returns-in-len2-up c =
    sym (mark-second c.args.bytes.now 0 c.in-len2-up.len_at_least (first-right _ c.if-first.false) (second-off _ c.if-second.true))

pub returns-in_default : goal.returns-in_default
returns-in_default c =
    sym (mark-right c.args.bytes.now 0 c.in-len2-up.len_at_least (first-right _ c.if-first.false) (second-right _ c.if-second.false))
