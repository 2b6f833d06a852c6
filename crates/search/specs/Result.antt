-- The best-so-far record, over any cost function.
use Rattle.std.specs.Prelude.{cond, ltb, ℕ, zero, suc}
use Rattle.motion.specs.declared.vector.MotionVector.{MotionVector}
use Rattle.motion.specs.Vector.{zero_v}
use Rattle.sad.specs.declared.rd.MVCandidateRD.{MVCandidateRD}
use Rattle.sad.specs.Cost.{empty_rd}
use Rattle.points.specs.declared.patterns.Pattern.{Pattern}
use Rattle.points.specs.Patterns.{points, point_of}
use Rattle.search.specs.declared.result.MotionSearchResult.{MotionSearchResult}

-- what each vector costs
abbrev pub CostOf : Type 0
CostOf = MotionVector → MVCandidateRD

-- an empty best: the largest cost, at the zero vector
unfoldable pub empty_result : MotionSearchResult
empty_result = record { mv = zero_v; rd = empty_rd }

-- a vector with its own SAD and cost
abbrev pub measured : CostOf → MotionVector → MotionSearchResult
measured rd v = record { mv = v; rd = rd v }

-- "cheaper" means strictly less, so the first of equals stays
unfoldable pub cheaper : MotionSearchResult → MotionSearchResult → MotionSearchResult
cheaper best other = cond (ltb other.rd.cost best.rd.cost) other best

-- one candidate against the best so far
unfoldable pub try_one : CostOf → MotionSearchResult → MotionVector → MotionSearchResult
try_one rd best v = cheaper best (measured rd v)

-- the first n of a row of candidates, in turn
unfoldable pub try_each : (rd : CostOf) (best : MotionSearchResult) (n : ℕ) (vs : ℕ → MotionVector) → MotionSearchResult
try_each rd best zero vs = best
try_each rd best (suc n) vs = try_one rd (try_each rd best n vs) (vs n)

-- all points of a pattern round a centre, which stays where it is
unfoldable pub try_pattern : (rd : CostOf) (best : MotionSearchResult) (p : Pattern) (centre : MotionVector) → MotionSearchResult
try_pattern rd best p centre = try_each rd best (points p) (point_of p centre)
