-- `search::diamond::fullpel_diamond_search` meets its contract: each turn goes on with what is left of the search.
use mathlib.Core.Path.{◌≡◌, sym, ap, subst, ◌∙◌}
use Prim.Native.Nat.{ℕ, suc, ◌-◌, ◌<◌}
use native.Mathlib.Omega.{arith}
use Rattle.sad.specs.Planes.{rd_in}
use Rattle.search.specs.declared.result.MotionSearchResult.{MotionSearchResult}
use Rattle.search.specs.Diamond.{diamond_best, diamond_at, diamond}
use Rattle.search.proofs.ResultLaws.{Kept}
use Rattle.search.proofs.DiamondLaws.{kept_move, diamond-moves, diamond-narrows, diamond-stops}
use Rattle.search.proofs.InRange.{Ranged, ranged}
use Rattle.search.proofs.diamond.fullpel_diamond_search.Goals as goal

pub loop-current-preserved-then-best_cand-current : goal.loop-current-preserved-then-best_cand-current
loop-current-preserved-then-best_cand-current c =
    let turn = c.loop-current in
    let a = c.args in
    let rd = rd_in a.p.now in
    let kept = ranged a.p.now.block a.p.now.cur.now a.p.now.reference.now in
    let r = turn.diamond_radius_log2 in
    let round = c.diamond_round-best_cand.ensures in
    let less : (diamond_best rd r turn.current.mv).rd.cost < turn.current.rd.cost = omega (arith, c.if-best_cand-current.true, ap (λ (m : MotionSearchResult). m.rd.cost) round) in (
      turn.invariant.0,
      subst (Kept rd (Ranged a.p.now.block) kept) (sym round) (kept_move rd (Ranged a.p.now.block) kept r turn.current turn.invariant.1 less),
      ap (diamond_at rd r) round ∙ sym (diamond-moves rd r turn.current less) ∙ turn.invariant.2,
    )

pub loop-current-preserved : goal.loop-current-preserved
loop-current-preserved c =
    let turn = c.loop-current in
    let a = c.args in
    let rd = rd_in a.p.now in
    let r = turn.diamond_radius_log2 in
    let more : r ≡ suc (r - 1) = omega arith in
    let round = ap (λ (m : MotionSearchResult). m.rd.cost) (c.diamond_round-best_cand.ensures ∙ ap (λ (n : ℕ). diamond_best rd n turn.current.mv) more) in (
      omega arith,
      turn.invariant.1,
      sym (diamond-narrows rd (r - 1) turn.current (omega (arith, c.if-best_cand-current.false, round)))
          ∙ ap (λ (n : ℕ). diamond_at rd n turn.current) (sym more) ∙ turn.invariant.2,
    )

pub returns : goal.returns
unfolding diamond
returns c =
    let turn = c.loop-current in
    let a = c.args in
    let rd = rd_in a.p.now in
    let last = c.if-diamond_radius_log2-eq0.true in
    let round = ap (λ (m : MotionSearchResult). m.rd.cost) (c.diamond_round-best_cand.ensures ∙ ap (λ (n : ℕ). diamond_best rd n turn.current.mv) last) in
    sym (diamond-stops rd turn.current (omega (arith, c.if-best_cand-current.false, round))) ∙ ap (λ (n : ℕ). diamond_at rd n turn.current) (sym last) ∙ turn.invariant.2
