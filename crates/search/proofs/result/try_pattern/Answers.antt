-- `search::result::try_pattern` meets its contract: after i turns the best is that of i points.
use mathlib.Core.Path.{◌≡◌, sym, ap, ap₂, ◌∙◌}
use Prim.Native.Nat.{ℕ}
use native.Mathlib.Omega.{arith}
use Rattle.motion.specs.declared.vector.MotionVector.{MotionVector}
use Rattle.sad.specs.Planes.{rd_in}
use Rattle.points.specs.Patterns.{points, point_of}
use Rattle.search.specs.declared.result.MotionSearchResult.{MotionSearchResult}
use Rattle.search.specs.Result.{try_one, try_each, try_pattern}
use Rattle.search.proofs.ResultLaws.{each_none, each_more}
use Rattle.search.proofs.result.try_pattern.Goals as goal

pub loop-i-init : goal.loop-i-init
loop-i-init c =
    let a = c.args in
    sym (each_none (rd_in a.p.now) a.current (point_of a.pattern a.center))

pub loop-i-preserved : goal.loop-i-preserved
loop-i-preserved c =
    let a = c.args in
    let rd = rd_in a.p.now in
    c.try_mv-best.ensures ∙ ap₂ (λ (m : MotionSearchResult) (v : MotionVector). try_one rd m v) c.loop-i.invariant c.pattern_point.ensures
    ∙ sym (each_more rd a.current c.loop-i.i (point_of a.pattern a.center))

pub returns : goal.returns
unfolding try_pattern
returns c =
    let a = c.args in
    let done : c.loop-i.i ≡ points a.pattern = omega (arith, c.pattern_points-i-end.ensures) in
    c.loop-i.invariant ∙ ap (λ (n : ℕ). try_each (rd_in a.p.now) a.current n (point_of a.pattern a.center)) done
