-- What a block saves depends on the cells that it samples alone, and a refinement and its window on the block's first cell. Assumes
-- nothing.
use mathlib.Core.Path.{◌≡◌, refl, ap, ap₂}
use mathlib.Core.Bool.{Bool}
use mathlib.Core.List.{List, [], ◌∷◌, ◌++◌, map}
use Prim.Native.Nat.{ℕ, suc, ◌*◌, ◌<◌}
use native.Mathlib.Omega.{arith}
use lib.ListN.{length, get_or}
use Rattle.motion.specs.declared.vector.MotionVector.{MotionVector}
use Rattle.motion.specs.Vector.{zero_v}
use Rattle.motion.specs.Level.{level_of}
use Rattle.motion.specs.Block.{block_of}
use Rattle.grid.specs.declared.cells.MEStats.{MEStats}
use Rattle.grid.specs.Grid.{Grid, cell_at, stats_at}
use Rattle.grid.specs.Previous.{Previous}
use Rattle.points.specs.Window.{refine_window}
use Rattle.search.specs.Full.{refine}
use Rattle.sampled.specs.Slots.{slotted}
use Rattle.sampled.specs.Sampled.{cells_b, cells_c, cells_centre}
use Rattle.predict.specs.declared.predictors.MotionEstimationSubsets.{MotionEstimationSubsets}
use Rattle.predict.specs.Predictors.{predictor, predictors_at, sads_at, least_of, minimum_sad, stop_threshold, subsets_of}
use Rattle.estimate.specs.Inputs.{Inputs}
use Rattle.estimate.specs.Block.{block_in, cost_in, full_pixel_me, stats_of, estimate_motion, first_stored, window_at, refine_motion}

-- two grids that hold the same in each cell of a list
pub record SameAt (g h : Grid) (is : List ℕ) : Type 0 where
  pub each : (k : ℕ) → k < length is → stats_at g (get_or is k 0) ≡ stats_at h (get_or is k 0)

same_map : {B : Type 0} (f : MEStats → B) {g h : Grid} (is : List ℕ) → SameAt g h is → map (λ i. f (stats_at g i)) is ≡ map (λ i. f (stats_at h i)) is
same_map f [] e = refl
same_map f (i ∷ is) e = ap₂ ◌∷◌ (ap f (e.each 0 (omega arith))) (same_map f is (record { each = λ k p. e.each (suc k) (omega arith) }))

-- what a block saves depends on the cells that it samples alone
module _ (width height level bx by : ℕ) (present : Bool) (prev before g h : Grid) (b : SameAt g h (cells_b width height level bx by)) (c : SameAt prev before (cells_c width height level bx by present)) (centre : SameAt g h (cells_centre width height level bx by)) where
  pub subsets_read : subsets_of width height level bx by present prev g ≡ subsets_of width height level bx by present before h
  unfolding subsets_of predictors_at sads_at
  subsets_read =
      let block = block_of width height (level_of level) (level_of level).mv_size bx by in
      let s = (level_of level).ssdec in
      let vector : MEStats → MotionVector = λ x. predictor block.range s x.mv in
      let vb = same_map vector (cells_b width height level bx by) b in
      let vm = same_map vector (cells_centre width height level bx by) centre in
      let sb = same_map (λ (x : MEStats). x.normalized_sad) (cells_b width height level bx by) b in
      let sm = same_map (λ (x : MEStats). x.normalized_sad) (cells_centre width height level bx by) centre in
      let vc = same_map vector (cells_c width height level bx by present) c in
      let sc = same_map (λ (x : MEStats). x.normalized_sad) (cells_c width height level bx by present) c in
      let area = block.w * block.h in
      λ j.
      record {
        min_sad = minimum_sad (least_of (sb j ++ sc j ++ sm j)) area;
        threshold = stop_threshold (minimum_sad (least_of (sb j ++ sc j ++ sm j)) area) area;
        center = get_or (vm j) 0 zero_v;
        b_count = length (vb j ++ (zero_v ∷ []));
        c_count = length (vc j);
        subset_b = slotted zero_v (vb j ++ (zero_v ∷ []));
        subset_c = slotted zero_v (vc j);
      }

pub estimate_reads : (i : Inputs) (p : Previous) (bx by : ℕ) (g h : Grid) → SameAt g h (cells_b i.width i.height i.level bx by) → SameAt g h (cells_centre i.width i.height i.level bx by) → estimate_motion i p bx by g ≡ estimate_motion i p bx by h
unfolding estimate_motion
estimate_reads i p bx by g h b centre =
    let block = block_in i (level_of i.level).mv_size bx by in
    ap (λ (mvs : MotionEstimationSubsets). stats_of (level_of i.level).ssdec block.w block.h (full_pixel_me (cost_in i block) i.level mvs))
    (subsets_read i.width i.height i.level bx by p.present p.grid p.grid g h b (record { each = λ k less. refl }) centre)

-- and a refinement, on the block's first cell
module _ (bx by : ℕ) (g h : Grid) where
  pub refine-reads : (i : Inputs) → stats_at g (cell_at i.width bx by) ≡ stats_at h (cell_at i.width bx by) → refine_motion i bx by g.rows g.cols ≡ refine_motion i bx by h.rows h.cols
  unfolding refine_motion first_stored stats_at
  refine-reads i e =
      let b = block_in i (level_of i.level).refined bx by in
      let s = (level_of i.level).ssdec in
      ap (λ (x : MEStats). stats_of s b.w b.h (refine (cost_in i b) b.range x.mv s)) e

  pub window_reads : (width height level : ℕ) → stats_at g (cell_at width bx by) ≡ stats_at h (cell_at width bx by) → window_at width height level bx by g.rows g.cols ≡ window_at width height level bx by h.rows h.cols
  unfolding window_at first_stored stats_at
  window_reads width height level e =
      let l = level_of level in
      ap (λ (x : MEStats). refine_window (block_of width height l l.refined bx by).range x.mv l.ssdec) e
