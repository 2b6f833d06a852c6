-- `estimate::searched::SearchedBlock::extensive_search` meets its contract: it stops where the definition does, and what is kept is in range.
use borrow.Author.Tests.{lt-ltb, le-ltb}
use mathlib.Core.Path.{◌≡◌, sym, ap, ap₂, subst, ◌∙◌}
use Prim.Native.Nat.{◌≤◌, ◌<◌}
use native.Mathlib.Omega.{arith}
use Rattle.sad.specs.Planes.{rd_in}
use Rattle.search.specs.declared.result.MotionSearchResult.{MotionSearchResult}
use Rattle.search.specs.Result.{CostOf, cheaper}
use Rattle.search.specs.MultiHexagon.{multi_hexagon}
use Rattle.search.proofs.InRange.{Ranged}
use Rattle.predict.specs.declared.predictors.MotionEstimationSubsets.{MotionEstimationSubsets}
use Rattle.estimate.specs.Block.{try_cands, extensive_search}
use Rattle.estimate.proofs.BlockFacts.{cands_taken, loose_extensive}
use Rattle.estimate.proofs.searched.SearchedBlock.extensive_search.Goals.{Start, After-try_cands-near, Else-near-p, After-move_to-best}
use Rattle.estimate.proofs.searched.SearchedBlock.extensive_search.Goals as goal

module _ (rd : CostOf) (p : MotionEstimationSubsets) where
  abbrev near : MotionSearchResult
  near = try_cands rd p.subset_b p.b_count

  abbrev kept : MotionSearchResult
  kept = cheaper near (try_cands rd p.subset_c p.c_count)

  at_first : near.rd.sad < p.threshold → extensive_search rd p ≡ near
  unfolding extensive_search
  at_first h = rw (lt-ltb near.rd.sad p.threshold h)

  at_second : p.threshold ≤ near.rd.sad → kept.rd.sad < p.threshold → extensive_search rd p ≡ kept
  unfolding extensive_search
  at_second g h = rw (le-ltb near.rd.sad p.threshold g, lt-ltb kept.rd.sad p.threshold h)

  at_last : p.threshold ≤ near.rd.sad → p.threshold ≤ kept.rd.sad → extensive_search rd p ≡ multi_hexagon rd kept
  unfolding extensive_search
  at_last g h = rw (le-ltb near.rd.sad p.threshold g, le-ltb kept.rd.sad p.threshold h)

abbrev cost : Start → CostOf
cost c = rd_in c.args.self.planes

near-is : (c : After-try_cands-near) → c.try_cands-near.result ≡ near (cost (goal.at.After-try_cands-near c).Start) c.args.p
near-is c =
    let p = c.args.p in
    c.try_cands-near.ensures ∙ cands_taken (cost (goal.at.After-try_cands-near c).Start) p.subset_b p.b_count (omega arith)

-- past the first test
missed : (c : Else-near-p) → c.args.p.threshold ≤ (near (cost (goal.at.Else-near-p c).Start) c.args.p).rd.sad
missed c =
    subst (λ (m : MotionSearchResult). c.args.p.threshold ≤ m.rd.sad) (near-is (goal.at.Else-near-p c).After-try_cands-near) c.if-near-p.false

kept-is : (c : After-move_to-best) → c.move_to-best.result ≡ kept (cost (goal.at.After-move_to-best c).Start) c.args.p
kept-is c =
    let p = c.args.p in
    let far = c.try_cands.ensures ∙ cands_taken (cost (goal.at.After-move_to-best c).Start) p.subset_c p.c_count (omega arith) in
    c.move_to-best.ensures ∙ ap₂ cheaper (near-is (goal.at.After-move_to-best c).After-try_cands-near) far

pub returns-then-near-p : goal.returns-then-near-p
returns-then-near-p c =
    let p = c.args.p in
    near-is (goal.at.returns-then-near-p c).After-try_cands-near ∙ sym (at_first (cost (goal.at.returns-then-near-p c).Start) p (subst (λ (m : MotionSearchResult). m.rd.sad < p.threshold) (near-is (goal.at.returns-then-near-p c).After-try_cands-near) c.if-near-p.true))

pub returns-then-best-p : goal.returns-then-best-p
returns-then-best-p c =
    let p = c.args.p in
    kept-is (goal.at.returns-then-best-p c).After-move_to-best ∙ sym (at_second (cost (goal.at.returns-then-best-p c).Start) p (missed (goal.at.returns-then-best-p c).Else-near-p) (subst (λ (m : MotionSearchResult). m.rd.sad < p.threshold) (kept-is (goal.at.returns-then-best-p c).After-move_to-best) c.if-best-p.true))

pub uneven_multi_hex_search-requires : goal.uneven_multi_hex_search-requires
uneven_multi_hex_search-requires c =
    let s = c.args.self in
    let loose = loose_extensive s.planes.block s.planes.cur.now s.planes.reference.now s.zero_in_range c.args.p in
    subst (Ranged s.planes.block) (sym (kept-is (goal.at.uneven_multi_hex_search-requires c).After-move_to-best)) loose.holds.in_range_lem

pub returns : goal.returns
returns c =
    let p = c.args.p in
    c.uneven_multi_hex_search.ensures ∙ ap (multi_hexagon (cost (goal.at.returns c).Start)) (kept-is (goal.at.returns c).After-move_to-best)
    ∙ sym (at_last (cost (goal.at.returns c).Start) p (missed (goal.at.returns c).Else-near-p) (subst (λ (m : MotionSearchResult). p.threshold ≤ m.rd.sad) (kept-is (goal.at.returns c).After-move_to-best) c.if-best-p.false))
