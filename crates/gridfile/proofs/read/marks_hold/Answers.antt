-- `gridfile::read::marks_hold` meets its contract: after i turns the first i marks hold. Assumes nothing.
use Rattle.std.proofs.Common.{◌*◌, ℕ, sym}
use Rattle.ground.proofs.EveryLaws.{below_none, below_more, below_fails}
use Rattle.records.specs.Forms.{cell_bytes}
use Rattle.gridfile.specs.Reading.{marked}
use Rattle.gridfile.proofs.MarkLaws.{marked_at}
use Rattle.gridfile.proofs.read.marks_hold.Goals as goal

pub loop-i-init : goal.loop-i-init
loop-i-init c = below_none (λ i. marked_at c.args.records.now (cell_bytes * i))

pub returns-then-not-is_marked : goal.returns-then-not-is_marked
unfolding marked
returns-then-not-is_marked c =
    let marks = λ (i : ℕ). marked_at c.args.records.now (cell_bytes * i) in
    sym (below_fails c.args.count marks c.loop-i.i c.loop-i-test.true (sym c.if-not-is_marked.ensures))

pub loop-i-preserved : goal.loop-i-preserved
unfolding marked
loop-i-preserved c =
    below_more c.loop-i.i (λ i. marked_at c.args.records.now (cell_bytes * i)) c.loop-i.invariant (sym c.if-not-is_marked.ensures)
