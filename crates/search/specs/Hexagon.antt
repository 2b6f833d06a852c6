-- Hexagon: the cheapest of six; while cheaper than the centre, move and try three; then one round of the square.
use Rattle.std.specs.Prelude.{cond, ℕ, zero, suc, ◌+◌, ◌%◌, ltb}
use Rattle.motion.specs.declared.vector.MotionVector.{MotionVector}
use Rattle.points.specs.declared.patterns.Pattern.TheVariants.{Square}
use Rattle.points.specs.Patterns.{hexagon_point}
use Rattle.search.specs.declared.result.MotionSearchResult.{MotionSearchResult}
use Rattle.search.specs.declared.hexagon.HexCand.{HexCand}
use Rattle.search.specs.Result.{CostOf, empty_result, cheaper, try_pattern}

-- point i of the hexagon against the cheapest so far of a round
unfoldable pub try_index : (rd : CostOf) (centre : MotionVector) (cand : HexCand) (i : ℕ) → HexCand
try_index rd centre cand i =
    let v = hexagon_point centre i in
    cond (ltb (rd v).cost cand.best.rd.cost) (record { idx = i; best = record { mv = v; rd = rd v } }) cand

-- the first n points in turn
unfoldable pub tried_to : CostOf → MotionVector → ℕ → HexCand
tried_to rd centre zero = record { idx = 0; best = empty_result }
tried_to rd centre (suc n) = try_index rd centre (tried_to rd centre n) n

-- the cheapest of six
unfoldable pub hexagon_six : CostOf → MotionVector → HexCand
hexagon_six rd centre = tried_to rd centre 6

-- only indices (i+5), i and (i+1) modulo 6
unfoldable pub hexagon_three : CostOf → MotionVector → ℕ → HexCand
hexagon_three rd centre i =
    try_index rd centre
    (try_index rd centre (try_index rd centre (record { idx = i; best = empty_result }) ((i + 5) % 6)) i)
    ((i + 1) % 6)

-- moves while the candidate is cheaper; the first argument bounds them
unfoldable pub hexagon_from : (turns : ℕ) (rd : CostOf) (best : MotionSearchResult) (cand : HexCand) → MotionSearchResult
hexagon_from zero rd best cand = best
hexagon_from (suc n) rd best cand =
    cond (ltb cand.best.rd.cost best.rd.cost)
    (hexagon_from n rd cand.best (hexagon_three rd cand.best.mv cand.idx)) best

-- each move lowers the cost, so that as many moves as the cost says are enough
unfoldable pub hexagon_at : CostOf → MotionSearchResult → HexCand → MotionSearchResult
hexagon_at rd best cand = hexagon_from (suc best.rd.cost) rd best cand

-- one round, only one, of the eight square points
unfoldable pub square_round : CostOf → MotionSearchResult → MotionSearchResult
square_round rd best = cheaper best (try_pattern rd empty_result Square best.mv)

unfoldable pub hexagon : CostOf → MotionSearchResult → MotionSearchResult
hexagon rd best = square_round rd (hexagon_at rd best (hexagon_six rd best.mv))
