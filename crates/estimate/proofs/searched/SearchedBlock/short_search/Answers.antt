-- `estimate::searched::SearchedBlock::short_search` meets its contract: what the lists leave is in range.
use Rattle.std.proofs.Common.{◌≡◌, sym, ap, ap₂, subst, ◌∙◌, arith}
use Rattle.sad.specs.Planes.{rd_in}
use Rattle.search.specs.declared.result.MotionSearchResult.{MotionSearchResult}
use Rattle.search.specs.Result.{CostOf, empty_result, cheaper, try_one}
use Rattle.search.specs.Diamond.{diamond}
use Rattle.search.proofs.InRange.{Ranged}
use Rattle.estimate.specs.Asked.{Honest}
use Rattle.estimate.specs.Block.{try_mvs, short_search}
use Rattle.estimate.proofs.BlockFacts.{try_taken, loose_centre, loose_near, loose_short}
use Rattle.estimate.proofs.searched.SearchedBlock.short_search.Goals.{Start, After-move_to-middle, After-try_mvs-near, After-try_mvs-best}
use Rattle.estimate.proofs.searched.SearchedBlock.short_search.Goals as goal

abbrev cost : Start → CostOf
cost c = rd_in c.args.self.planes

-- the centre
abbrev middle : Start → MotionSearchResult
middle c = try_one (cost c) empty_result c.args.p.center

middle-is : (c : After-move_to-middle) → c.move_to-middle.result ≡ middle (goal.at.After-move_to-middle c).Start
unfolding try_one
middle-is c = c.move_to-middle.ensures ∙ ap₂ cheaper c.empty-empty.ensures c.measured-center.ensures

-- then B
abbrev near : Start → MotionSearchResult
near c = try_mvs (cost c) (middle c) c.args.p.subset_b c.args.p.b_count

near-is : (c : After-try_mvs-near) → c.try_mvs-near.result ≡ near (goal.at.After-try_mvs-near c).Start
near-is c =
    let p = c.args.p in
    let rd = cost (goal.at.After-try_mvs-near c).Start in
    c.try_mvs-near.ensures ∙ try_taken rd c.move_to-middle.result p.subset_b p.b_count (omega arith)
    ∙ ap (λ (m : MotionSearchResult). try_mvs rd m p.subset_b p.b_count) (middle-is (goal.at.After-try_mvs-near c).After-move_to-middle)

-- then C
best_is : (c : After-try_mvs-best) → c.try_mvs-best.result ≡ try_mvs (cost (goal.at.After-try_mvs-best c).Start) (near (goal.at.After-try_mvs-best c).Start) c.args.p.subset_c c.args.p.c_count
best_is c =
    let p = c.args.p in
    let rd = cost (goal.at.After-try_mvs-best c).Start in
    c.try_mvs-best.ensures ∙ try_taken rd c.try_mvs-near.result p.subset_c p.c_count (omega arith)
    ∙ ap (λ (m : MotionSearchResult). try_mvs rd m p.subset_c p.c_count) (near-is (goal.at.After-try_mvs-best c).After-try_mvs-near)

pub try_mvs-near-requires : goal.try_mvs-near-requires
try_mvs-near-requires c =
    let s = c.args.self in
    let loose = loose_centre s.planes.block s.planes.cur.now s.planes.reference.now s.zero_in_range c.args.p in
    subst (Honest (rd_in s.planes)) (sym (middle-is (goal.at.try_mvs-near-requires c).After-move_to-middle)) loose.holds.own

pub try_mvs-best-requires : goal.try_mvs-best-requires
try_mvs-best-requires c =
    let s = c.args.self in
    let loose = loose_near s.planes.block s.planes.cur.now s.planes.reference.now s.zero_in_range c.args.p in
    subst (Honest (rd_in s.planes)) (sym (near-is (goal.at.try_mvs-best-requires c).After-try_mvs-near)) loose.holds.own

pub fullpel_diamond_search-requires : goal.fullpel_diamond_search-requires
fullpel_diamond_search-requires c =
    let s = c.args.self in
    let kept = loose_short s.planes.block s.planes.cur.now s.planes.reference.now s.zero_in_range c.args.p in
    subst (Ranged s.planes.block) (sym (best_is (goal.at.fullpel_diamond_search-requires c).After-try_mvs-best)) kept.holds.in_range_lem

pub returns : goal.returns
unfolding short_search
returns c = c.fullpel_diamond_search.ensures ∙ ap (diamond (rd_in c.args.self.planes)) (best_is (goal.at.returns c).After-try_mvs-best)
