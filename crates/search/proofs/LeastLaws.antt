-- No search hands back a cost above the start's, and no row of candidates one above any of theirs. Assumes nothing.
use mathlib.Core.Path.{◌≡◌, refl}
use mathlib.Core.Bool.{Bool, true, false, cond}
use Prim.Native.Nat.{ℕ, zero, suc, ◌+◌, ◌≤◌, ◌<◌}
use native.Mathlib.Nat.{le_refl, le_trans}
use native.Mathlib.Omega.{arith}
use borrow.Author.Tests.{ltb-true, ltb-false}
use lib.Dec.{ltb}
use Rattle.motion.specs.declared.vector.MotionVector.{MotionVector}
use Rattle.points.specs.declared.patterns.Pattern.{Pattern}
use Rattle.points.specs.declared.patterns.Pattern.TheVariants.{Square, RowLine, ColLine, Eighths, Umh}
use Rattle.points.specs.Patterns.{points, point_of}
use Rattle.search.specs.declared.result.MotionSearchResult.{MotionSearchResult}
use Rattle.search.specs.declared.hexagon.HexCand.{HexCand}
use Rattle.search.specs.Result.{CostOf, empty_result, cheaper, try_one, try_each, try_pattern}
use Rattle.search.specs.Diamond.{diamond_best, diamond_from, diamond_at, diamond}
use Rattle.search.specs.Hexagon.{hexagon_six, hexagon_three, hexagon_from, hexagon_at, square_round, hexagon}
use Rattle.search.specs.MultiHexagon.{cross, eighths_square, rings, multi_hexagon}

least_by : (best other : MotionSearchResult) (t : Bool) → ltb other.rd.cost best.rd.cost ≡ t → (cond t other best).rd.cost ≤ best.rd.cost
least_by best other true e = omega (arith, ltb-true other.rd.cost best.rd.cost e)
least_by best other false e = le_refl best.rd.cost

pub least-cheaper : (best other : MotionSearchResult) → (cheaper best other).rd.cost ≤ best.rd.cost
unfolding cheaper
least-cheaper best other = least_by best other (ltb other.rd.cost best.rd.cost) refl

-- nor one above the other's
other-by : (best other : MotionSearchResult) (t : Bool) → ltb other.rd.cost best.rd.cost ≡ t → (cond t other best).rd.cost ≤ other.rd.cost
other-by best other true e = le_refl other.rd.cost
other-by best other false e = ltb-false other.rd.cost best.rd.cost e

pub least_other : (best other : MotionSearchResult) → (cheaper best other).rd.cost ≤ other.rd.cost
unfolding cheaper
least_other best other = other-by best other (ltb other.rd.cost best.rd.cost) refl

-- one of n + 1 is one of the first n, or the last
pub last_or : (P : ℕ → Type 0) (k n : ℕ) → k < suc n → (k < n → P k) → P n → P k
last_or P k n h before last = go (ltb k n) refl
  where
    go : (t : Bool) → ltb k n ≡ t → P k
    go true e = before (ltb-true k n e)
    go false e = let same : k ≡ n = omega (arith, ltb-false k n e) in rw same last

module _ (rd : CostOf) where
  pub least-each : (best : MotionSearchResult) (n : ℕ) (vs : ℕ → MotionVector) → (try_each rd best n vs).rd.cost ≤ best.rd.cost
  unfolding try_each try_one
  least-each best zero vs = le_refl best.rd.cost
  least-each best (suc n) vs = le_trans (least-cheaper (try_each rd best n vs) (record { mv = vs n; rd = rd (vs n) })) (least-each best n vs)

  -- no candidate that was tried is cheaper than what is handed back
  pub least-tried : (best : MotionSearchResult) (n : ℕ) (vs : ℕ → MotionVector) (k : ℕ) → k < n → (try_each rd best n vs).rd.cost ≤ (rd (vs k)).cost
  unfolding try_each try_one
  least-tried best zero vs k h = absurd (omega arith)
  least-tried best (suc n) vs k h =
      let before = try_each rd best n vs in
      let new : MotionSearchResult = record { mv = vs n; rd = rd (vs n) } in
      last_or (λ i. (cheaper before new).rd.cost ≤ (rd (vs i)).cost) k n h
      (λ less. le_trans (least-cheaper before new) (least-tried best n vs k less)) (least_other before new)

  pub least-pattern : (best : MotionSearchResult) (p : Pattern) (centre : MotionVector) → (try_pattern rd best p centre).rd.cost ≤ best.rd.cost
  unfolding try_pattern
  least-pattern best p centre = least-each best (points p) (point_of p centre)

  diamond-by : (n r : ℕ) (best : MotionSearchResult) (t : Bool) → ltb (diamond_best rd r best.mv).rd.cost best.rd.cost ≡ t → (diamond_from n rd r best).rd.cost ≤ best.rd.cost
  unfolding diamond_from
  diamond-by zero r best t e = le_refl best.rd.cost
  diamond-by (suc n) zero best true e =
      let cand = diamond_best rd zero best.mv in
      let rest = diamond-by n zero cand (ltb (diamond_best rd zero cand.mv).rd.cost cand.rd.cost) refl in
      rw e (omega (arith, rest, ltb-true cand.rd.cost best.rd.cost e))
  diamond-by (suc n) zero best false e = rw e (le_refl best.rd.cost)
  diamond-by (suc n) (suc r) best true e =
      let cand = diamond_best rd (suc r) best.mv in
      let rest = diamond-by n (suc r) cand (ltb (diamond_best rd (suc r) cand.mv).rd.cost cand.rd.cost) refl in
      rw e (omega (arith, rest, ltb-true cand.rd.cost best.rd.cost e))
  diamond-by (suc n) (suc r) best false e =
      rw e (diamond-by n r best (ltb (diamond_best rd r best.mv).rd.cost best.rd.cost) refl)

  pub least-diamond : (best : MotionSearchResult) → (diamond rd best).rd.cost ≤ best.rd.cost
  unfolding diamond diamond_at
  least-diamond best = diamond-by (suc (best.rd.cost + 1)) 1 best (ltb (diamond_best rd 1 best.mv).rd.cost best.rd.cost) refl

  hexagon-by : (n : ℕ) (best : MotionSearchResult) (cand : HexCand) (t : Bool) → ltb cand.best.rd.cost best.rd.cost ≡ t → (hexagon_from n rd best cand).rd.cost ≤ best.rd.cost
  unfolding hexagon_from
  hexagon-by zero best cand t e = le_refl best.rd.cost
  hexagon-by (suc n) best cand true e =
      let next = hexagon_three rd cand.best.mv cand.idx in
      let rest = hexagon-by n cand.best next (ltb next.best.rd.cost cand.best.rd.cost) refl in
      rw e (omega (arith, rest, ltb-true cand.best.rd.cost best.rd.cost e))
  hexagon-by (suc n) best cand false e = rw e (le_refl best.rd.cost)

  pub least-hexagon : (best : MotionSearchResult) → (hexagon rd best).rd.cost ≤ best.rd.cost
  unfolding hexagon square_round hexagon_at
  least-hexagon best =
      let six = hexagon_six rd best.mv in
      let done = hexagon_from (suc best.rd.cost) rd best six in
      le_trans (least-cheaper done (try_pattern rd empty_result Square done.mv))
      (hexagon-by (suc best.rd.cost) best six (ltb six.best.rd.cost best.rd.cost) refl)

  pub least-multi : (best : MotionSearchResult) → (multi_hexagon rd best).rd.cost ≤ best.rd.cost
  unfolding multi_hexagon rings eighths_square cross
  least-multi best =
      let rows = try_pattern rd best RowLine best.mv in
      let crossed = try_pattern rd rows ColLine best.mv in
      let near = try_pattern rd crossed Eighths crossed.mv in
      let far = try_pattern rd near Umh near.mv in
      le_trans (least-hexagon far)
      (le_trans (least-pattern near Umh near.mv)
      (le_trans (least-pattern crossed Eighths crossed.mv)
      (le_trans (least-pattern rows ColLine best.mv) (least-pattern best RowLine best.mv))))
