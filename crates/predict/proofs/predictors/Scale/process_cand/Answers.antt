-- `predict::predictors::Scale::process_cand` meets its contract: each component is cut, clamped and shifted.
use borrow.Author.Rules.{rules}
use Rattle.std.proofs.Common.{◌≡◌, ℤ, ap, ap₂, ◌∙◌}
use mir.Syntax.{w16}
use mir.Val.{SFits}
use mir.ValLaws.{to_z-of_z}
use Rattle.motion.specs.declared.vector.MotionVector.{MotionVector}
use Rattle.motion.specs.Vector.{shr_v, fullpel_v}
use Rattle.predict.specs.Predictors.{clamp_to, clamp_v, predictor}
use Rattle.predict.proofs.PredictorLaws.{clamp-is}
use Rattle.predict.proofs.predictors.Scale.process_cand.Goals as goal

pub clamp-row-requires : goal.clamp-row-requires
clamp-row-requires c =
    let r = c.args.self.range in
    let low : SFits w16 r.mvy_min = search rules in
    let high : SFits w16 r.mvy_max = search rules in
    simp to_z-of_z c.args.self.ordered.1

pub clamp-col-requires : goal.clamp-col-requires
clamp-col-requires c =
    let r = c.args.self.range in
    let low : SFits w16 r.mvx_min = search rules in
    let high : SFits w16 r.mvx_max = search rules in
    simp to_z-of_z c.args.self.ordered.0

pub returns : goal.returns
unfolding predictor clamp_v
returns c =
    let a = c.args.self in
    let r = a.range in
    let v = c.args.stored in
    let mv = c.quantize_to_fullpel-mv in
    let row = c.clamp-row in
    let col = c.clamp-col in
    let y : SFits w16 mv.result.row = search rules in
    let y0 : SFits w16 r.mvy_min = search rules in
    let y1 : SFits w16 r.mvy_max = search rules in
    let x : SFits w16 mv.result.col = search rules in
    let x0 : SFits w16 r.mvx_min = search rules in
    let x1 : SFits w16 r.mvx_max = search rules in
    let rf : SFits w16 row.result = record { sfits = (search rules) } in
    let cf : SFits w16 col.result = record { sfits = (search rules) } in
    let rows : row.result ≡ clamp_to (fullpel_v v).row r.mvy_min r.mvy_max =
    (simp to_z-of_z at row.ensures.value) ∙ clamp-is _ _ _ a.ordered.1 ∙ ap (λ (w : MotionVector). clamp_to w.row r.mvy_min r.mvy_max) mv.ensures in
    let cols : col.result ≡ clamp_to (fullpel_v v).col r.mvx_min r.mvx_max =
    (simp to_z-of_z at col.ensures.value) ∙ clamp-is _ _ _ a.ordered.0 ∙ ap (λ (w : MotionVector). clamp_to w.col r.mvx_min r.mvx_max) mv.ensures in
    (simp to_z-of_z at c.shr.ensures) ∙ ap₂ (λ (y x : ℤ). shr_v (record { row = y; col = x }) a.ssdec) rows cols
