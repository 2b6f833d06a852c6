-- The entry points that open the leaves: a range and the cost of one candidate.
use Rattle.std.specs.Prelude.{ℕ, cond, List, eqb, pos, length, Result, Ok, Err}
use Rattle.motion.specs.declared.vector.MotionVector.{MotionVector}
use Rattle.motion.specs.declared.range.MvRange.{MvRange}
use Rattle.motion.specs.Block.{weighed}
use Rattle.refusal.specs.declared.kinds.Refusal.{Refusal}
use Rattle.refusal.specs.Kinds.{number_of}
use Rattle.refusal.specs.Refusals.{block_refusal, call_refusal}
use Rattle.sad.specs.Cost.{rd_at}
use Rattle.single.specs.declared.found.Found.{Found}
use Rattle.single.specs.declared.range.Range.{Range}
use Rattle.single.specs.Found.{found_of, answer}
use Rattle.single.specs.Call.{block_at}

-- a range with the refusal; 0 in each field where there is one
unfoldable pub range_with : ℕ → MvRange → Range
range_with number r =
    cond (eqb number 0)
    (record { code = 0; mvx_min = r.mvx_min; mvx_max = r.mvx_max; mvy_min = r.mvy_min; mvy_max = r.mvy_max })
    (record { code = number; mvx_min = pos 0; mvx_max = pos 0; mvy_min = pos 0; mvy_max = pos 0 })

-- a range that may be a refusal, as C gets it
unfoldable pub range_from : Result MvRange Refusal → Range
range_from (Ok r) = range_with 0 r
range_from (Err refusal) =
    record { code = number_of refusal; mvx_min = pos 0; mvx_max = pos 0; mvy_min = pos 0; mvy_max = pos 0 }

-- the range of a block, at its level's shift
unfoldable pub range_answer : (width height level refined bx by : ℕ) → Range
range_answer width height level refined bx by =
    range_with (block_refusal width height level refined bx by) (block_at width height level refined bx by).range

-- the cost of one vector for a block
unfoldable pub candidate_answer : (width height level refined bx by : ℕ) (cur ref : List ℕ) (v : MotionVector) (weight : ℕ) → Found
candidate_answer width height level refined bx by cur ref v weight =
    answer (call_refusal width height level refined bx by (length cur) (length ref))
    (found_of v (rd_at (weighed (block_at width height level refined bx by) weight) cur ref v))
