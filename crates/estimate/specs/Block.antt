-- One block: its search from its predictors, or its refinement, and what is saved of the result.
use Rattle.std.specs.Prelude.{ℕ, ◌*◌, ◌/◌, ◌^◌, cond, List, ltb, eqb, ℤ, get_or}
use Rattle.motion.specs.declared.vector.MotionVector.{MotionVector}
use Rattle.motion.specs.declared.block.Block.{Block}
use Rattle.motion.specs.Vector.{zero_v, shl_v}
use Rattle.motion.specs.Level.{level_of}
use Rattle.motion.specs.Block.{block_of, weighed}
use Rattle.grid.specs.declared.cells.MEStats.{MEStats}
use Rattle.grid.specs.Grid.{Grid, cell_at, stored_at}
use Rattle.grid.specs.Previous.{Previous}
use Rattle.sad.specs.Cost.{rd_at}
use Rattle.points.specs.declared.window.Window.{Window}
use Rattle.points.specs.Window.{refine_window}
use Rattle.search.specs.declared.result.MotionSearchResult.{MotionSearchResult}
use Rattle.search.specs.Result.{CostOf, empty_result, cheaper, try_one, try_each}
use Rattle.search.specs.Diamond.{diamond}
use Rattle.search.specs.MultiHexagon.{multi_hexagon}
use Rattle.search.specs.Full.{refine}
use Rattle.predict.specs.declared.predictors.MotionEstimationSubsets.{MotionEstimationSubsets}
use Rattle.predict.specs.Predictors.{subsets_of}
use Rattle.estimate.specs.Inputs.{Inputs}

-- the block of a size at a cell
unfoldable pub block_in : (i : Inputs) (size bx by : ℕ) → Block
block_in i size bx by = weighed (block_of i.width i.height (level_of i.level) size bx by) i.weight

-- what each vector costs a block
unfoldable pub cost_in : Inputs → Block → CostOf
cost_in i b = rd_at b i.cur i.ref

-- the vectors of a list, in turn
unfoldable pub try_mvs : (rd : CostOf) (best : MotionSearchResult) (mvs : List MotionVector) (count : ℕ) → MotionSearchResult
try_mvs rd best mvs count = try_each rd best count (λ k. get_or mvs k zero_v)

-- levels 3 and 2: the centre, then B, then C: the cheapest (first of equals), then diamond
unfoldable pub short_search : CostOf → MotionEstimationSubsets → MotionSearchResult
short_search rd p =
    let b = try_mvs rd (try_one rd empty_result p.center) p.subset_b p.b_count in
    diamond rd (try_mvs rd b p.subset_c p.c_count)

-- a list and diamond, from an empty best
unfoldable pub try_cands : CostOf → List MotionVector → ℕ → MotionSearchResult
try_cands rd mvs count = diamond rd (try_mvs rd empty_result mvs count)

-- level 4: B and diamond; stop if SAD is below the threshold; C and diamond, kept if cheaper; the same test; then uneven
-- multi-hexagon
unfoldable pub extensive_search : CostOf → MotionEstimationSubsets → MotionSearchResult
extensive_search rd p =
    let b = try_cands rd p.subset_b p.b_count in
    let c = cheaper b (try_cands rd p.subset_c p.c_count) in
    cond (ltb b.rd.sad p.threshold) b (cond (ltb c.rd.sad p.threshold) c (multi_hexagon rd c))

unfoldable pub full_pixel_me : CostOf → ℕ → MotionEstimationSubsets → MotionSearchResult
full_pixel_me rd level p = cond (eqb level 4) (extensive_search rd p) (short_search rd p)

-- a result's vector is shifted left by s, and (SAD·16,384)/(w·h), rounded down, is its normalised SAD
unfoldable pub stats_of : (s w h : ℕ) (best : MotionSearchResult) → MEStats
stats_of s w h best = record { mv = shl_v best.mv s; normalized_sad = best.rd.sad * 2 ^ 14 / (w * h) }

-- what a block's search saves
unfoldable pub estimate_motion : (i : Inputs) (p : Previous) (bx by : ℕ) (g : Grid) → MEStats
estimate_motion i p bx by g =
    let b = block_in i (level_of i.level).mv_size bx by in
    let mvs = subsets_of i.width i.height i.level bx by p.present p.grid g in
    stats_of (level_of i.level).ssdec b.w b.h (full_pixel_me (cost_in i b) i.level mvs)

-- the vector stored in a block's first cell
unfoldable pub first_stored : (width bx by : ℕ) (rows cols : List ℤ) → MotionVector
first_stored width bx by rows cols = stored_at rows cols (cell_at width bx by)

-- the window of a block's refinement
unfoldable pub window_at : (width height level bx by : ℕ) (rows cols : List ℤ) → Window
window_at width height level bx by rows cols =
    let l = level_of level in
    refine_window (block_of width height l l.refined bx by).range (first_stored width bx by rows cols) l.ssdec

-- what a block's refinement saves
unfoldable pub refine_motion : (i : Inputs) (bx by : ℕ) (rows cols : List ℤ) → MEStats
refine_motion i bx by rows cols =
    let b = block_in i (level_of i.level).refined bx by in
    let s = (level_of i.level).ssdec in
    stats_of s b.w b.h (refine (cost_in i b) b.range (first_stored i.width bx by rows cols) s)
