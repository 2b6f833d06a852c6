-- `reader::calls::lockdapple_reader_end` meets its contract: a refusal stays, 11 before the header ended or a cell is missing.
use Rattle.std.proofs.Common.{◌∙◌, arith}
use Rattle.held.proofs.OpenLaws.{opened}
use Rattle.reader.proofs.AnswerLaws.{first-settled, end_refused, end_before, end-within, end_whole}
use Rattle.reader.proofs.calls.lockdapple_reader_end.Goals.{then-first-eq0-via-then-first-eq0, then-first-eq0-via-else-first-eq0+then-first-count}
use Rattle.reader.proofs.calls.lockdapple_reader_end.Goals as goal

pub returns-then-first-ne0 : goal.returns-then-first-ne0
returns-then-first-ne0 c =
    end_refused c.args.reader c.settled-first.result c.settled-first.ensures c.if-first-ne0.true

pub count-requires : goal.count-requires
count-requires c =
    let first = c.settled-first in
    let here = opened first.result (first-settled c.args.reader first.result first.ensures) c.if-first-ne0.false in
    (here.wide, here.high)

pub returns-then-first-eq0 : goal.returns-then-first-eq0
returns-then-first-eq0 c =
    let first = c.settled-first in
    c.refused.ensures
    ∙ elim c.then-first-eq0.branch [
      | then-first-eq0-via-then-first-eq0 w ↦ end_before c.args.reader first.result first.ensures c.if-first-ne0.false w.if-first-eq0.true
      | then-first-eq0-via-else-first-eq0+then-first-count w ↦ end-within c.args.reader first.result first.ensures c.if-first-ne0.false (omega (arith, w.count.ensures, w.if-first-count.true))
    ]

pub returns : goal.returns
returns c =
    let first = c.settled-first in
    end_whole c.args.reader first.result first.ensures c.if-first-ne0.false c.if-first-eq0.false (omega (arith, c.count.ensures, c.if-first-count.false))
