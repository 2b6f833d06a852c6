-- The single searches: from a start vector, whose record's SAD and cost they work out themselves.
use Rattle.std.specs.Prelude.{ℕ, List, length}
use Rattle.motion.specs.declared.vector.MotionVector.{MotionVector}
use Rattle.motion.specs.Range.{in_range}
use Rattle.motion.specs.Block.{weighed}
use Rattle.refusal.specs.Refusals.{refuse, ◌then◌, call_refusal}
use Rattle.sad.specs.Cost.{rd_at}
use Rattle.search.specs.declared.result.MotionSearchResult.{MotionSearchResult}
use Rattle.search.specs.Result.{CostOf, measured}
use Rattle.search.specs.Diamond.{diamond}
use Rattle.search.specs.Hexagon.{hexagon}
use Rattle.search.specs.MultiHexagon.{multi_hexagon}
use Rattle.single.specs.declared.found.Found.{Found}
use Rattle.single.specs.Found.{found_of, answer}
use Rattle.single.specs.Call.{block_at}
use Rattle.searches.specs.declared.searches.Method.{Method}
use Rattle.searches.specs.declared.searches.Method.TheVariants.{Diamond, Hexagon, MultiHexagon}

unfoldable pub search_by : Method → CostOf → MotionSearchResult → MotionSearchResult
search_by Diamond rd start = diamond rd start
search_by Hexagon rd start = hexagon rd start
search_by MultiHexagon rd start = multi_hexagon rd start

-- refusals 1 to 4, then 9: a start vector outside the block's range
unfoldable pub search_refusal : (width height level bx by n m : ℕ) (v : MotionVector) → ℕ
search_refusal width height level bx by n m v =
    call_refusal width height level 0 bx by n m then refuse 9 (in_range (block_at width height level 0 bx by).range v)

-- vector, SAD and cost at shift s, or the refusal
unfoldable pub search_answer : (method : Method) (width height level bx by : ℕ) (cur ref : List ℕ) (v : MotionVector) (weight : ℕ) → Found
search_answer method width height level bx by cur ref v weight =
    let rd = rd_at (weighed (block_at width height level 0 bx by) weight) cur ref in
    let best = search_by method rd (measured rd v) in
    answer (search_refusal width height level bx by (length cur) (length ref) v) (found_of best.mv best.rd)
