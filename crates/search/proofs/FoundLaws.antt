-- What searches hand back that start from an empty best at the zero vector: always a vector in range, and with the SAD and cost of
-- that vector once one in range has been tried. Assumes nothing.
use mathlib.Core.Path.{◌≡◌, refl}
use mathlib.Core.Bool.{true}
use mathlib.Core.List.{List}
use Prim.Native.Nat.{ℕ, zero, suc, ◌≤◌, ◌<◌, ◌^◌}
use native.Mathlib.Omega.{arith}
use Rattle.motion.specs.declared.block.Block.{Block}
use Rattle.motion.specs.declared.vector.MotionVector.{MotionVector}
use Rattle.motion.specs.Limits.{largest_sample}
use Rattle.motion.specs.Vector.{FitsV, zero_v}
use Rattle.motion.specs.Range.{in_range}
use Rattle.motion.proofs.BlockLaws.{Straddles, zero_in}
use Rattle.sad.specs.Asked.{Measured}
use Rattle.sad.specs.Cost.{empty_rd, rd_at}
use Rattle.sad.proofs.Sums.{Under}
use Rattle.sad.proofs.CostLaws.{in_range_most}
use Rattle.points.specs.declared.window.Span.{Span}
use Rattle.points.specs.declared.patterns.Pattern.{Pattern}
use Rattle.points.specs.Window.{span_at, refine_window}
use Rattle.points.proofs.WindowLaws.{window_in_range}
use Rattle.search.specs.declared.result.MotionSearchResult.{MotionSearchResult}
use Rattle.search.specs.Result.{empty_result, cheaper, try_one, try_each, try_pattern}
use Rattle.search.specs.Diamond.{diamond}
use Rattle.search.specs.Hexagon.{hexagon}
use Rattle.search.specs.MultiHexagon.{multi_hexagon}
use Rattle.search.specs.Full.{row_of, window_to, full_search, refine}
use Rattle.search.proofs.ResultLaws.{most_cost, Kept, kept-cheaper, kept-each, kept-pattern}
use Rattle.search.proofs.DiamondLaws.{kept-diamond}
use Rattle.search.proofs.HexagonLaws.{kept-hexagon}
use Rattle.search.proofs.InRange.{Ranged, ranged}
use Rattle.search.proofs.MultiHexagonLaws.{kept-multi}
use Rattle.search.proofs.FullLaws.{least-window}
use Rattle.search.proofs.HandsBack.{Own}

module _ (b : Block) (cur ref : List ℕ) where
  -- in range, and its own SAD and cost unless it costs the most
  pub record Loose (best : MotionSearchResult) : Type 0 where
    pub in_range_lem : Ranged b best
    pub own : best.rd.cost < most_cost → Own (rd_at b cur ref) best

  pub loose : (v : MotionVector) → (rd_at b cur ref v).cost < most_cost → Loose (record { mv = v; rd = rd_at b cur ref v })
  loose v h = record { in_range_lem = ranged b cur ref v h; own = λ less. refl }

  -- at a cost of at most the most, as the laws of searches ask
  abbrev pub LooseKept : MotionSearchResult → Type 0
  LooseKept best = Kept (rd_at b cur ref) Loose loose best

  pub loose_empty : in_range b.range zero_v ≡ true → LooseKept empty_result
  unfolding empty_result empty_rd
  loose_empty h = record { most = omega arith; holds = record { in_range_lem = h; own = λ less. absurd (omega arith) } }

  -- with zero in range, all that a search makes of an empty best stays so
  pub loose_cheaper : (best other : MotionSearchResult) → LooseKept best → LooseKept other → LooseKept (cheaper best other)
  loose_cheaper best other k o = kept-cheaper (rd_at b cur ref) Loose loose best other k (λ less. o.holds)

  pub loose_one : (best : MotionSearchResult) (v : MotionVector) → LooseKept best → LooseKept (try_one (rd_at b cur ref) best v)
  unfolding try_one
  loose_one best v k =
      let rd = rd_at b cur ref in
      kept-cheaper rd Loose loose best (record { mv = v; rd = rd v }) k (loose v)

  pub loose_each : (best : MotionSearchResult) (n : ℕ) (vs : ℕ → MotionVector) → LooseKept best → LooseKept (try_each (rd_at b cur ref) best n vs)
  loose_each best n vs k = kept-each (rd_at b cur ref) Loose loose best n vs k

  pub loose_pattern : (best : MotionSearchResult) (p : Pattern) (centre : MotionVector) → LooseKept best → LooseKept (try_pattern (rd_at b cur ref) best p centre)
  loose_pattern best p centre k = kept-pattern (rd_at b cur ref) Loose loose best p centre k

  pub loose_diamond : (best : MotionSearchResult) → LooseKept best → LooseKept (diamond (rd_at b cur ref) best)
  loose_diamond best k = kept-diamond (rd_at b cur ref) Loose loose best k

  pub loose_hexagon : (best : MotionSearchResult) → LooseKept best → LooseKept (hexagon (rd_at b cur ref) best)
  loose_hexagon best k = kept-hexagon (rd_at b cur ref) Loose loose best k

  pub loose_multi : (best : MotionSearchResult) → LooseKept best → LooseKept (multi_hexagon (rd_at b cur ref) best)
  loose_multi best k = kept-multi (rd_at b cur ref) Loose loose best k

  pub loose_window : in_range b.range zero_v ≡ true → (rows cols : Span) (n : ℕ) → LooseKept (window_to (rd_at b cur ref) rows cols n)
  unfolding window_to row_of
  loose_window z rows cols zero = loose_empty z
  loose_window z rows cols (suc n) =
      let rd = rd_at b cur ref in
      loose_each (window_to rd rows cols n) cols.count (λ k. record { row = span_at rows.lo n; col = span_at cols.lo k }) (loose_window z rows cols n)

  -- a record in range, with its own SAD and cost, which is below the most
  pub record Settled (best : MotionSearchResult) : Type 0 where
    pub in_range_lem : Ranged b best
    pub own : Own (rd_at b cur ref) best
    pub less : best.rd.cost < most_cost

  module _ (m : Measured b) (hc : Under largest_sample cur) (hr : Under largest_sample ref) (hw : b.weight < 2 ^ 32) where
    -- in range, a block of bytes costs less than the most
    pub in_range_cost : (v : MotionVector) → in_range b.range v ≡ true → (rd_at b cur ref v).cost < most_cost
    in_range_cost v h = omega (arith, in_range_most b cur ref v m hc hr hw h)

    -- so a record that is not above a vector in range is settled
    pub settled : {best : MotionSearchResult} → LooseKept best → (v : MotionVector) → in_range b.range v ≡ true → best.rd.cost ≤ (rd_at b cur ref v).cost → Settled best
    settled {best} k v h below =
        let less : best.rd.cost < most_cost = omega (arith, in_range_cost v h) in
        record { in_range_lem = k.holds.in_range_lem; own = k.holds.own less; less = less }

    -- what a refinement hands back, where its window has a candidate
    pub refine-settled : Straddles b.range → (stored : MotionVector) → FitsV stored → (s : ℕ) → 0 < (refine_window b.range stored s).rows.count → 0 < (refine_window b.range stored s).cols.count → Settled (refine (rd_at b cur ref) b.range stored s)
    unfolding refine full_search
    refine-settled st stored f s hj hk =
        let rows = (refine_window b.range stored s).rows in
        let cols = (refine_window b.range stored s).cols in
        settled (loose_window (zero_in st) rows cols rows.count) (record { row = span_at rows.lo 0; col = span_at cols.lo 0 })
        (window_in_range st f s 0 0 hj hk) (least-window (rd_at b cur ref) rows cols 0 0 hk rows.count hj)
