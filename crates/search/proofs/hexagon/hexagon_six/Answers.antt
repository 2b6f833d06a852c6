-- `search::hexagon::hexagon_six` meets its contract: after i turns the candidate is that of i points.
use mathlib.Core.Path.{◌≡◌, sym, ap, ◌∙◌}
use native.Mathlib.Omega.{arith}
use Rattle.sad.specs.Planes.{rd_in}
use Rattle.search.specs.declared.hexagon.HexCand.{HexCand}
use Rattle.search.specs.Hexagon.{try_index, tried_to, hexagon_six}
use Rattle.search.proofs.HexagonLaws.{tried_none, tried_more}
use Rattle.search.proofs.hexagon.hexagon_six.Goals as goal

pub loop-i-init : goal.loop-i-init
loop-i-init c =
    let a = c.args in
    (λ k. record { idx = 0; best = c.empty.ensures k }) ∙ sym (tried_none (rd_in a.p.now) a.center)

pub loop-i-preserved : goal.loop-i-preserved
loop-i-preserved c =
    let a = c.args in
    c.try_index-cand.ensures ∙ ap (λ (m : HexCand). try_index (rd_in a.p.now) a.center m c.loop-i.i) c.loop-i.invariant
    ∙ sym (tried_more (rd_in a.p.now) a.center c.loop-i.i)

pub returns : goal.returns
unfolding hexagon_six
returns c =
    let a = c.args in
    let done : c.loop-i.i ≡ 6 = omega arith in
    c.loop-i.invariant ∙ ap (tried_to (rd_in a.p.now) a.center) done
