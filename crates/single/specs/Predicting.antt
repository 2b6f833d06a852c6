-- The entry point that opens the predictors.
use Rattle.std.specs.Prelude.{ℕ, cond, [], eqb, Result, Ok, Err}
use Rattle.motion.specs.Vector.{zero_v}
use Rattle.grid.specs.Grid.{Grid, room}
use Rattle.grid.specs.Previous.{previous}
use Rattle.refusal.specs.declared.kinds.Refusal.{Refusal}
use Rattle.refusal.specs.Kinds.{number_of}
use Rattle.refusal.specs.Refusals.{refuse, ◌then◌, block_refusal, grids_hold}
use Rattle.sampled.specs.Slots.{slotted}
use Rattle.predict.specs.declared.predictors.MotionEstimationSubsets.{MotionEstimationSubsets}
use Rattle.predict.specs.Predictors.{subsets_of}
use Rattle.single.specs.declared.predicting.Predictors.{Predictors}

-- refusals 1 to 3, then 5
unfoldable pub predictors_refusal : (width height level bx by present : ℕ) (prev g : Grid) → ℕ
predictors_refusal width height level bx by present prev g =
    block_refusal width height level 0 bx by then refuse 5 (grids_hold width height present (room prev) (room g))

-- a refusal holds 0 in each field
unfoldable pub refused_predictors : ℕ → Predictors
refused_predictors number =
    record {
      code = number;
      min_sad = 0;
      threshold = 0;
      b_count = 0;
      c_count = 0;
      center = zero_v;
      b = slotted zero_v [];
      c = slotted zero_v [];
    }

-- the lists with their counts, or a refusal
unfoldable pub predictors_with : ℕ → MotionEstimationSubsets → Predictors
predictors_with number p =
    cond (eqb number 0)
    (record {
      code = 0;
      min_sad = p.min_sad;
      threshold = p.threshold;
      b_count = p.b_count;
      c_count = p.c_count;
      center = p.center;
      b = p.subset_b;
      c = p.subset_c;
    })
    (refused_predictors number)

-- predictors that may be a refusal, as C gets them
unfoldable pub predictors_from : Result MotionEstimationSubsets Refusal → Predictors
predictors_from (Ok p) = predictors_with 0 p
predictors_from (Err refusal) = refused_predictors (number_of refusal)

unfoldable pub predictors_answer : (width height level bx by present : ℕ) (prev g : Grid) → Predictors
predictors_answer width height level bx by present prev g =
    predictors_with (predictors_refusal width height level bx by present prev g)
    (subsets_of width height level bx by (previous present prev).present prev g)
