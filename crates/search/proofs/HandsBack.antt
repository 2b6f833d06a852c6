-- What a search that starts in range hands back: a vector in range, with the SAD and cost of that vector, at a cost not above
-- the start's. Assumes nothing.
use mathlib.Core.Path.{◌≡◌, refl}
use mathlib.Core.Bool.{true}
use mathlib.Core.List.{List}
use Prim.Native.Nat.{ℕ, ◌≤◌, ◌<◌}
use Rattle.motion.specs.declared.block.Block.{Block}
use Rattle.motion.specs.declared.vector.MotionVector.{MotionVector}
use Rattle.motion.specs.Range.{in_range}
use Rattle.sad.specs.Cost.{rd_at}
use Rattle.search.specs.declared.result.MotionSearchResult.{MotionSearchResult}
use Rattle.search.specs.Result.{CostOf}
use Rattle.search.specs.Diamond.{diamond}
use Rattle.search.specs.Hexagon.{hexagon}
use Rattle.search.specs.MultiHexagon.{multi_hexagon}
use Rattle.search.proofs.ResultLaws.{most_cost, Kept}
use Rattle.search.proofs.DiamondLaws.{kept-diamond}
use Rattle.search.proofs.HexagonLaws.{kept-hexagon}
use Rattle.search.proofs.InRange.{Ranged, ranged}
use Rattle.search.proofs.MultiHexagonLaws.{kept-multi}
use Rattle.search.proofs.LeastLaws.{least-diamond, least-hexagon, least-multi}

-- a record that holds its own vector's SAD and cost
abbrev pub Own : CostOf → MotionSearchResult → Type 0
Own rd best = best.rd ≡ rd best.mv

pub own : (rd : CostOf) (v : MotionVector) → (rd v).cost < most_cost → Own rd (record { mv = v; rd = rd v })
own rd v h = refl

module _ (b : Block) (cur ref : List ℕ) (start : MotionSearchResult) where
  pub record HandsBack (best : MotionSearchResult) : Type 0 where
    pub in_range_lem : in_range b.range best.mv ≡ true
    pub own : Own (rd_at b cur ref) best
    pub not-above : best.rd.cost ≤ start.rd.cost

  module _ (most : start.rd.cost ≤ most_cost) (in_range_lem : in_range b.range start.mv ≡ true) (owned : Own (rd_at b cur ref) start) where
    ranges : Kept (rd_at b cur ref) (Ranged b) (ranged b cur ref) start
    ranges = record { most = most; holds = in_range_lem }

    owns : Kept (rd_at b cur ref) (Own (rd_at b cur ref)) (own (rd_at b cur ref)) start
    owns = record { most = most; holds = owned }

    pub diamond-hands : HandsBack (diamond (rd_at b cur ref) start)
    diamond-hands =
        let rd = rd_at b cur ref in
        record {
          in_range_lem = (kept-diamond rd (Ranged b) (ranged b cur ref) start ranges).holds;
          own = (kept-diamond rd (Own rd) (own rd) start owns).holds;
          not-above = least-diamond rd start;
        }

    pub hexagon-hands : HandsBack (hexagon (rd_at b cur ref) start)
    hexagon-hands =
        let rd = rd_at b cur ref in
        record {
          in_range_lem = (kept-hexagon rd (Ranged b) (ranged b cur ref) start ranges).holds;
          own = (kept-hexagon rd (Own rd) (own rd) start owns).holds;
          not-above = least-hexagon rd start;
        }

    pub multi_hands : HandsBack (multi_hexagon (rd_at b cur ref) start)
    multi_hands =
        let rd = rd_at b cur ref in
        record {
          in_range_lem = (kept-multi rd (Ranged b) (ranged b cur ref) start ranges).holds;
          own = (kept-multi rd (Own rd) (own rd) start owns).holds;
          not-above = least-multi rd start;
        }
