-- `listing::blocks::Listing::step` meets its contract: after a turn the cells up to the next are listed. Assumes nothing.
use Rattle.std.proofs.Common.{arith}
use Rattle.text.proofs.PutLaws.{puts_nothing, puts_as, puts_behind}
use Rattle.listing.specs.Lines.{listed_lines}
use Rattle.listing.specs.Cells.{cells_from, record_at}
use Rattle.listing.proofs.ListedLaws.{lines_more}
use Rattle.listing.proofs.blocks.Listing.step.Goals as goal

pub loop-i-init : goal.loop-i-init
unfolding listed_lines cells_from
loop-i-init c = record { within = omega arith; put = puts_nothing _ }

pub loop-i-preserved : goal.loop-i-preserved
unfolding record_at
loop-i-preserved c =
    let s = c.args.self.now in
    record {
      within = omega (arith, c.loop-i.invariant.within, c.put_listed.ensures.upper_bound);
      put = puts_as (lines_more s.across s.next (record_at c.args.cells.now) c.loop-i.i c.get_cell-cell.ensures) (puts_behind c.loop-i.invariant.put c.put_listed.ensures.put);
    }
