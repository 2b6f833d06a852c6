-- `search::multi_hex::uneven_multi_hex_search` meets its contract: each stage hands on a record in range.
use mathlib.Core.Path.{sym, ap, subst, ◌∙◌}
use native.Mathlib.Omega.{arith}
use Rattle.sad.specs.Planes.{rd_in}
use Rattle.search.specs.Hexagon.{hexagon}
use Rattle.search.specs.MultiHexagon.{cross, eighths_square, rings, multi_hexagon}
use Rattle.search.proofs.ResultLaws.{Kept}
use Rattle.search.proofs.InRange.{Ranged, ranged}
use Rattle.search.proofs.MultiHexagonLaws.{kept-cross, kept-eighths, kept-rings}
use Rattle.search.proofs.multi_hex.uneven_multi_hex_search.Goals.{Start, After-cross_search-crossed}
use Rattle.search.proofs.multi_hex.uneven_multi_hex_search.Goals as goal

module _ (c : After-cross_search-crossed) where
  started : Kept (rd_in c.args.p.now) (Ranged c.args.p.now.block) (ranged c.args.p.now.block c.args.p.now.cur.now c.args.p.now.reference.now) c.args.start
  started = record { most = omega (arith, (goal.at.After-cross_search-crossed c).Start); holds = c.requires }

pub eighths_square_search-near-requires : goal.eighths_square_search-near-requires
eighths_square_search-near-requires c =
    let a = c.args in
    let rd = rd_in a.p.now in
    let Q = Ranged a.p.now.block in
    let in_range_lem = ranged a.p.now.block a.p.now.cur.now a.p.now.reference.now in
    let kept = kept-cross rd Q in_range_lem a.start (started c) in
    c.args.p.now.lies_cur.near c.cross_search-crossed.result.mv (subst Q (sym c.cross_search-crossed.ensures) kept.holds)

pub rings_search-far-requires : goal.rings_search-far-requires
rings_search-far-requires c =
    let a = c.args in
    let rd = rd_in a.p.now in
    let Q = Ranged a.p.now.block in
    let in_range_lem = ranged a.p.now.block a.p.now.cur.now a.p.now.reference.now in
    let kept = kept-eighths rd Q in_range_lem (cross rd a.start) (kept-cross rd Q in_range_lem a.start (started (goal.at.rings_search-far-requires c).After-cross_search-crossed)) in
    let is = c.eighths_square_search-near.ensures ∙ ap (eighths_square rd) c.cross_search-crossed.ensures in
    c.args.p.now.lies_cur.near c.eighths_square_search-near.result.mv (subst Q (sym is) kept.holds)

pub hexagon_search-requires : goal.hexagon_search-requires
hexagon_search-requires c =
    let a = c.args in
    let rd = rd_in a.p.now in
    let Q = Ranged a.p.now.block in
    let in_range_lem = ranged a.p.now.block a.p.now.cur.now a.p.now.reference.now in
    let kept = kept-rings rd Q in_range_lem (eighths_square rd (cross rd a.start)) (kept-eighths rd Q in_range_lem (cross rd a.start) (kept-cross rd Q in_range_lem a.start (started (goal.at.hexagon_search-requires c).After-cross_search-crossed))) in
    let is = c.rings_search-far.ensures ∙ ap (rings rd) (c.eighths_square_search-near.ensures ∙ ap (eighths_square rd) c.cross_search-crossed.ensures) in
    subst Q (sym is) kept.holds

pub returns : goal.returns
unfolding multi_hexagon
returns c =
    let a = c.args in
    let rd = rd_in a.p.now in
    c.hexagon_search.ensures
    ∙ ap (hexagon rd) (c.rings_search-far.ensures ∙ ap (rings rd) (c.eighths_square_search-near.ensures ∙ ap (eighths_square rd) c.cross_search-crossed.ensures))
