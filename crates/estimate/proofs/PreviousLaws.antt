-- An absent previous grid's cells are never read. Assumes nothing.
use Rattle.std.proofs.Common.{◌≡◌, ℕ, ap}
use Rattle.motion.specs.Level.{level_of}
use Rattle.grid.specs.Grid.{Grid}
use Rattle.grid.specs.Previous.{Previous}
use Rattle.grid.specs.Lent.{SamePrevious}
use Rattle.predict.specs.declared.predictors.MotionEstimationSubsets.{MotionEstimationSubsets}
use Rattle.predict.proofs.SubsetLaws.{subsets-same_previous}
use Rattle.estimate.specs.Inputs.{Inputs}
use Rattle.estimate.specs.Block.{block_in, cost_in, full_pixel_me, stats_of, estimate_motion}

-- so a block's search saves the same whatever they are
pub estimate_motion-same_previous : (i : Inputs) {p q : Previous} (bx by : ℕ) (g : Grid) → SamePrevious p q → estimate_motion i p bx by g ≡ estimate_motion i q bx by g
unfolding estimate_motion
estimate_motion-same_previous i {p} {q} bx by g same =
    let b = block_in i (level_of i.level).mv_size bx by in
    ap (λ (mvs : MotionEstimationSubsets). stats_of (level_of i.level).ssdec b.w b.h (full_pixel_me (cost_in i b) i.level mvs)) (subsets-same_previous i.width i.height i.level bx by p q g same)
