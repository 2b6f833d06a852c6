-- What holds of the record of every vector in range holds of all that the stages of the multi-hexagon hand on. Assumes nothing.
use Prim.Native.Nat.{◌<◌}
use Rattle.motion.specs.declared.vector.MotionVector.{MotionVector}
use Rattle.points.specs.declared.patterns.Pattern.TheVariants.{RowLine, ColLine, Eighths, Umh}
use Rattle.search.specs.declared.result.MotionSearchResult.{MotionSearchResult}
use Rattle.search.specs.Result.{CostOf}
use Rattle.search.specs.MultiHexagon.{cross, eighths_square, rings, multi_hexagon}
use Rattle.search.proofs.ResultLaws.{most_cost, Kept, kept-pattern}
use Rattle.search.proofs.HexagonLaws.{kept-hexagon}

module _ (rd : CostOf) (Q : MotionSearchResult → Type 0) (ok : (v : MotionVector) → (rd v).cost < most_cost → Q (record { mv = v; rd = rd v })) where
  pub kept-cross : (best : MotionSearchResult) → Kept rd Q ok best → Kept rd Q ok (cross rd best)
  unfolding cross
  kept-cross best k = kept-pattern rd Q ok _ ColLine best.mv (kept-pattern rd Q ok best RowLine best.mv k)

  pub kept-eighths : (best : MotionSearchResult) → Kept rd Q ok best → Kept rd Q ok (eighths_square rd best)
  unfolding eighths_square
  kept-eighths best k = kept-pattern rd Q ok best Eighths best.mv k

  pub kept-rings : (best : MotionSearchResult) → Kept rd Q ok best → Kept rd Q ok (rings rd best)
  unfolding rings
  kept-rings best k = kept-pattern rd Q ok best Umh best.mv k

  pub kept-multi : (best : MotionSearchResult) → Kept rd Q ok best → Kept rd Q ok (multi_hexagon rd best)
  unfolding multi_hexagon
  kept-multi best k = kept-hexagon rd Q ok _ (kept-rings _ (kept-eighths _ (kept-cross best k)))
