-- `estimate::searched::SearchedBlock::try_cands` meets its contract: what the list leaves is in range.
use Rattle.std.proofs.Common.{length}
use Rattle.search.specs.Result.{empty_result}
use Rattle.search.proofs.FoundLaws.{loose_empty}
use Rattle.estimate.specs.Block.{try_cands}
use Rattle.estimate.proofs.BlockFacts.{loose_mvs}
use Rattle.estimate.proofs.searched.SearchedBlock.try_cands.Goals as goal

pub try_mvs-best-requires : goal.try_mvs-best-requires
try_mvs-best-requires c =
    let p = c.args.self.planes in
    rw c.empty.ensures (loose_empty p.block p.cur.now p.reference.now c.args.self.zero_in_range).holds.own

pub fullpel_diamond_search-requires : goal.fullpel_diamond_search-requires
fullpel_diamond_search-requires c =
    let p = c.args.self.planes in
    let first = loose_empty p.block p.cur.now p.reference.now c.args.self.zero_in_range in
    let kept = loose_mvs p.block p.cur.now p.reference.now empty_result c.args.mvs.now (length c.args.mvs.now) first in
    rw (c.try_mvs-best.ensures, c.empty.ensures) kept.holds.in_range_lem

pub returns : goal.returns
unfolding try_cands
returns c = rw (c.fullpel_diamond_search.ensures, c.try_mvs-best.ensures, c.empty.ensures)
