-- `gridfile::read::end_refusal` meets its contract: each return has the tests before it passed. Assumes nothing.
use Rattle.std.proofs.Common.{sym}
use Rattle.gridfile.proofs.HeaderLaws.{odd_columns, odd_rows, too_many, none_wrong}
use Rattle.gridfile.proofs.read.end_refusal.Goals.{then-columns-ne0-via-then-columns-ne0, then-columns-ne0-via-else-columns-ne0+then-rows-ne0}
use Rattle.gridfile.proofs.read.end_refusal.Goals as goal

pub returns-then-columns-ne0 : goal.returns-then-columns-ne0
returns-then-columns-ne0 c =
    elim c.then-columns-ne0.branch [
      | then-columns-ne0-via-then-columns-ne0 w ↦ sym (odd_columns c.args.room c.args.columns c.args.rows w.if-columns-ne0.true)
      | then-columns-ne0-via-else-columns-ne0+then-rows-ne0 w ↦ sym (odd_rows c.args.room c.args.columns c.args.rows w.if-columns-ne0.false w.if-rows-ne0.true)
    ]

pub returns-then-room-columns : goal.returns-then-room-columns
returns-then-room-columns c = sym (too_many _ _ _ c.if-columns-ne0.false c.if-rows-ne0.false c.if-room-columns.true)

pub returns : goal.returns
returns c = sym (none_wrong _ _ _ c.if-columns-ne0.false c.if-rows-ne0.false c.if-room-columns.false)
