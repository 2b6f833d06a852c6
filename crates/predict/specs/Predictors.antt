-- The predictors of a block: lists B and C, the centre, the minimum SAD and the stop threshold.
use Rattle.std.specs.Prelude.{ℕ, ◌+◌, ◌-◌, ◌*◌, ◌/◌, ◌^◌, min, Bool, cond, List, [], ◌∷◌, ◌++◌, map, ℤ, length, get_or}
use Rattle.std.specs.Int.Signed.{lt_z}
use Rattle.motion.specs.declared.vector.MotionVector.{MotionVector}
use Rattle.motion.specs.declared.range.MvRange.{MvRange}
use Rattle.motion.specs.Vector.{zero_v, shr_v, fullpel_v}
use Rattle.motion.specs.Level.{level_of}
use Rattle.motion.specs.Block.{block_of}
use Rattle.grid.specs.Grid.{Grid, stats_at}
use Rattle.sampled.specs.Slots.{slotted}
use Rattle.sampled.specs.Sampled.{cells_b, cells_c, cells_centre}
use Rattle.predict.specs.declared.predictors.Subset.{Subset}
use Rattle.predict.specs.declared.predictors.MotionEstimationSubsets.{MotionEstimationSubsets}

-- clamped between two ends
unfoldable pub clamp_to : (z low high : ℤ) → ℤ
clamp_to z low high = cond (lt_z z low) low (cond (lt_z high z) high z)

unfoldable pub clamp_v : MvRange → MotionVector → MotionVector
clamp_v r v =
    record {
      row = clamp_to v.row r.mvy_min r.mvy_max;
      col = clamp_to v.col r.mvx_min r.mvx_max;
    }

-- a stored vector is cut to whole pixels toward zero, clamped to the range already shifted by s, then shifted right by s
unfoldable pub predictor : MvRange → ℕ → MotionVector → MotionVector
predictor r s v = shr_v (clamp_v r (fullpel_v v)) s

-- the predictors of some cells of a grid
unfoldable pub predictors_at : (r : MvRange) (s : ℕ) (g : Grid) (is : List ℕ) → List MotionVector
predictors_at r s g is = map (λ i. predictor r s (stats_at g i).mv) is

-- the normalised SADs of some cells of a grid
unfoldable pub sads_at : Grid → List ℕ → List ℕ
sads_at g is = map (λ i. (stats_at g i).normalized_sad) is

-- the least normalised SAD sampled, else 4,294,967,295
unfoldable pub least_of : List ℕ → ℕ
least_of [] = 2 ^ 32 - 1
least_of (n ∷ ns) = min n (least_of ns)

-- times w·h, shifted right by 14
unfoldable pub minimum_sad : ℕ → ℕ → ℕ
minimum_sad least area = least * area / 2 ^ 14

-- the stop threshold is six fifths of the minimum SAD, rounded down, plus w·h
unfoldable pub stop_threshold : ℕ → ℕ → ℕ
stop_threshold min_sad area = min_sad * 6 / 5 + area

-- what sampling some cells gives: at most five vectors, their count, and the least SAD
unfoldable pub subset_of : (r : MvRange) (s : ℕ) (g : Grid) (is : List ℕ) → Subset
subset_of r s g is =
    record { count = length is; mvs = slotted zero_v (predictors_at r s g is); least = least_of (sads_at g is) }

-- the predictors of the block at cell (bx, by), from the grid as it stands and the previous one
unfoldable pub subsets_of : (width height level bx by : ℕ) (present : Bool) (prev g : Grid) → MotionEstimationSubsets
subsets_of width height level bx by present prev g =
    let b = block_of width height (level_of level) (level_of level).mv_size bx by in
    let s = (level_of level).ssdec in
    let bs = cells_b width height level bx by in
    let cs = cells_c width height level bx by present in
    let ms = cells_centre width height level bx by in
    let vb = predictors_at b.range s g bs ++ (zero_v ∷ []) in
    let vc = predictors_at b.range s prev cs in
    let least = least_of (sads_at g bs ++ sads_at prev cs ++ sads_at g ms) in
    let min_sad = minimum_sad least (b.w * b.h) in
    record {
      min_sad = min_sad;
      threshold = stop_threshold min_sad (b.w * b.h);
      center = get_or (predictors_at b.range s g ms) 0 zero_v;
      b_count = length vb;
      c_count = length vc;
      subset_b = slotted zero_v vb;
      subset_c = slotted zero_v vc;
    }
