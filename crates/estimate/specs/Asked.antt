-- What inner functions ask of their callers: no rule of the documents.
use Rattle.std.specs.Prelude.{◌≡◌, List, ℕ, ◌-◌, ◌*◌, ◌^◌, ◌≤◌, ◌<◌, length, get_or}
use Rattle.motion.specs.Limits.{largest_sample}
use Rattle.motion.specs.Frame.{Side}
use Rattle.motion.specs.Level.{level_of}
use Rattle.motion.specs.Block.{plane_of}
use Rattle.search.specs.declared.result.MotionSearchResult.{MotionSearchResult}
use Rattle.search.specs.Result.{CostOf}
use Rattle.sampled.specs.Slots.{slots}
use Rattle.predict.specs.declared.predictors.MotionEstimationSubsets.{MotionEstimationSubsets}
use Rattle.estimate.specs.Inputs.{Inputs}

-- the levels
pub data Leveled : ℕ → Type 0 where
  four : Leveled 4
  three : Leveled 3
  two : Leveled 2

-- a plane of a level is no shorter than stride times rows
abbrev pub PlaneHeld : (width height level : ℕ) (plane : List ℕ) → Type 0
PlaneHeld width height level plane =
    (plane_of width height (level_of level)).stride * (plane_of width height (level_of level)).rows ≤ length plane

-- the samples of a plane are bytes, so that their differences add up to no more than this a sample
abbrev pub Samples : List ℕ → Type 0
Samples plane = (i : ℕ) → get_or plane i 0 ≤ largest_sample

-- inputs that no test refuses
pub record Ready (i : Inputs) : Type 0 where
  pub wide : Side i.width
  pub high : Side i.height
  pub leveled : Leveled i.level
  pub cur : PlaneHeld i.width i.height i.level i.cur
  pub ref : PlaneHeld i.width i.height i.level i.ref

-- both lists of a predictor record are in five slots; no ghost field of it, since the definition `subsets_of` builds the record
pub record Listed (p : MotionEstimationSubsets) : Type 0 where
  pub b-few : p.b_count ≤ slots
  pub c_few : p.c_count ≤ slots
  pub b-slots : length p.subset_b ≡ slots
  pub c_slots : length p.subset_c ≡ slots

-- a best so far that costs less than the most has its own vector's SAD and cost
abbrev pub Honest : CostOf → MotionSearchResult → Type 0
Honest rd best = best.rd.cost < 2 ^ 64 - 1 → best.rd ≡ rd best.mv
