-- `search::hexagon::hexagon_search` meets its contract: each turn goes on with what is left of the search.
use mathlib.Core.Path.{refl, sym, ap, subst, ◌∙◌}
use Prim.Native.Nat.{◌≤◌, ◌<◌}
use native.Mathlib.Omega.{arith}
use Rattle.sad.specs.Planes.{rd_in}
use Rattle.search.specs.declared.hexagon.HexCand.{HexCand}
use Rattle.search.specs.Hexagon.{hexagon_at, square_round, hexagon}
use Rattle.search.proofs.ResultLaws.{most_cost, Sound}
use Rattle.search.proofs.HexagonLaws.{six-small, three-small, sound_six, sound_three, hexagon-moves, hexagon-stops}
use Rattle.search.proofs.InRange.{Ranged, ranged}
use Rattle.search.proofs.hexagon.hexagon_search.Goals as goal

pub loop-cand-init : goal.loop-cand-init
loop-cand-init c =
    let a = c.args in
    let rd = rd_in a.p.now in
    let in_range_lem = ranged a.p.now.block a.p.now.cur.now a.p.now.reference.now in
    let six = sym c.hexagon_six-cand.ensures in
    let most : a.start.rd.cost ≤ most_cost = omega arith in (
      subst (λ (m : HexCand). m.idx < 6) six (six-small rd a.start.mv),
      record { most = most; holds = c.requires },
      subst (λ (m : HexCand). Sound rd (Ranged a.p.now.block) in_range_lem m.best) six (sound_six rd (Ranged a.p.now.block) in_range_lem a.start.mv),
      refl,
    )

pub loop-cand-preserved : goal.loop-cand-preserved
loop-cand-preserved c =
    let a = c.args in
    let rd = rd_in a.p.now in
    let in_range_lem = ranged a.p.now.block a.p.now.cur.now a.p.now.reference.now in
    let best = c.loop-cand.cand.best in
    let less = c.loop-cand-test.true in
    let three = sym c.hexagon_three-cand.ensures in
    let sound = c.loop-cand.invariant.2 in (
      subst (λ (m : HexCand). m.idx < 6) three (three-small rd best.mv c.loop-cand.cand.idx c.loop-cand.invariant.0),
      record { most = sound.most; holds = sound.holds (omega (arith, less, c.loop-cand.invariant.1.most)) },
      subst (λ (m : HexCand). Sound rd (Ranged a.p.now.block) in_range_lem m.best) three (sound_three rd (Ranged a.p.now.block) in_range_lem best.mv c.loop-cand.cand.idx),
      ap (hexagon_at rd best) c.hexagon_three-cand.ensures ∙ sym (hexagon-moves rd c.loop-cand.current c.loop-cand.cand less) ∙ c.loop-cand.invariant.3,
    )

pub returns : goal.returns
unfolding hexagon
returns c =
    let a = c.args in
    let rd = rd_in a.p.now in
    let done = sym (hexagon-stops rd c.loop-cand.current c.loop-cand.cand c.loop-cand-test.false) ∙ c.loop-cand.invariant.3 ∙ ap (hexagon_at rd a.start) c.hexagon_six-cand.ensures in
    c.square_refine.ensures ∙ ap (square_round rd) done
