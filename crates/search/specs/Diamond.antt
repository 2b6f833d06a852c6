-- Diamond: the cheapest of four points; move there if cheaper than the centre; if not, a smaller radius, then stop.
use Rattle.std.specs.Prelude.{cond, ℕ, zero, suc, ◌+◌, ltb}
use Rattle.motion.specs.declared.vector.MotionVector.{MotionVector}
use Rattle.points.specs.declared.patterns.Pattern.TheVariants.{Diamond}
use Rattle.search.specs.declared.result.MotionSearchResult.{MotionSearchResult}
use Rattle.search.specs.Result.{CostOf, empty_result, try_pattern}

-- the cheapest of the four points, at a radius of 2 ^ r pixels
unfoldable pub diamond_best : CostOf → ℕ → MotionVector → MotionSearchResult
diamond_best rd r centre = try_pattern rd empty_result (Diamond r) centre

-- turns of the diamond; the first argument bounds them
unfoldable pub diamond_from : (turns : ℕ) (rd : CostOf) (r : ℕ) (best : MotionSearchResult) → MotionSearchResult
diamond_from zero rd r best = best
diamond_from (suc n) rd zero best =
    let cand = diamond_best rd zero best.mv in
    cond (ltb cand.rd.cost best.rd.cost) (diamond_from n rd zero cand) best
diamond_from (suc n) rd (suc r) best =
    let cand = diamond_best rd (suc r) best.mv in
    cond (ltb cand.rd.cost best.rd.cost) (diamond_from n rd (suc r) cand) (diamond_from n rd r best)

-- each turn lowers the cost or the radius, so that cost plus radius turns are enough
unfoldable pub diamond_at : CostOf → ℕ → MotionSearchResult → MotionSearchResult
diamond_at rd r best = diamond_from (suc (best.rd.cost + r)) rd r best

-- radius 2 pixels, then 1
unfoldable pub diamond : CostOf → MotionSearchResult → MotionSearchResult
diamond rd best = diamond_at rd 1 best
