-- Laws of the diamond: a move, a smaller radius and the stop, and that more turns change nothing. Assumes nothing.
use mathlib.Core.Path.{◌≡◌, refl}
use mathlib.Core.Bool.{Bool, true, false}
use Prim.Native.Nat.{ℕ, zero, suc, ◌+◌, ◌≤◌, ◌<◌}
use native.Mathlib.Omega.{arith}
use borrow.Author.Tests.{lt-ltb, le-ltb, ltb-true}
use lib.Dec.{ltb}
use Rattle.motion.specs.declared.vector.MotionVector.{MotionVector}
use Rattle.points.specs.declared.patterns.Pattern.TheVariants.{Diamond}
use Rattle.search.specs.declared.result.MotionSearchResult.{MotionSearchResult}
use Rattle.search.specs.Result.{CostOf, empty_result}
use Rattle.search.specs.Diamond.{diamond_best, diamond_from, diamond_at, diamond}
use Rattle.search.proofs.ResultLaws.{most_cost, Sound, sound_empty, sound_pattern, Kept}

-- more turns than cost plus radius change nothing
from_by : (n m : ℕ) (rd : CostOf) (r : ℕ) (best : MotionSearchResult) → best.rd.cost + r < n → best.rd.cost + r < m → (t : Bool) → ltb (diamond_best rd r best.mv).rd.cost best.rd.cost ≡ t → diamond_from n rd r best ≡ diamond_from m rd r best
unfolding diamond_from
from_by zero m rd r best hn hm t e = absurd (omega arith)
from_by (suc n) zero rd r best hn hm t e = absurd (omega arith)
from_by (suc n) (suc m) rd zero best hn hm true e =
    let cand = diamond_best rd zero best.mv in
    let less = ltb-true cand.rd.cost best.rd.cost e in
    rw e (from_by n m rd zero cand (omega arith) (omega arith) (ltb (diamond_best rd zero cand.mv).rd.cost cand.rd.cost) refl)
from_by (suc n) (suc m) rd zero best hn hm false e = rw e
from_by (suc n) (suc m) rd (suc r) best hn hm true e =
    let cand = diamond_best rd (suc r) best.mv in
    let less = ltb-true cand.rd.cost best.rd.cost e in
    rw e (from_by n m rd (suc r) cand (omega arith) (omega arith) (ltb (diamond_best rd (suc r) cand.mv).rd.cost cand.rd.cost) refl)
from_by (suc n) (suc m) rd (suc r) best hn hm false e =
    rw e (from_by n m rd r best (omega arith) (omega arith) (ltb (diamond_best rd r best.mv).rd.cost best.rd.cost) refl)

pub enough : (n m : ℕ) (rd : CostOf) (r : ℕ) (best : MotionSearchResult) → best.rd.cost + r < n → best.rd.cost + r < m → diamond_from n rd r best ≡ diamond_from m rd r best
enough n m rd r best hn hm = from_by n m rd r best hn hm (ltb (diamond_best rd r best.mv).rd.cost best.rd.cost) refl

-- the loop's three ways
pub diamond-moves : (rd : CostOf) (r : ℕ) (best : MotionSearchResult) → (diamond_best rd r best.mv).rd.cost < best.rd.cost → diamond_at rd r best ≡ diamond_at rd r (diamond_best rd r best.mv)
unfolding diamond_at diamond_from
diamond-moves rd zero best h =
    let cand = diamond_best rd zero best.mv in
    rw (lt-ltb cand.rd.cost best.rd.cost h) (enough (best.rd.cost + zero) (suc (cand.rd.cost + zero)) rd zero cand (omega arith) (omega arith))
diamond-moves rd (suc r) best h =
    let cand = diamond_best rd (suc r) best.mv in
    rw (lt-ltb cand.rd.cost best.rd.cost h) (enough (best.rd.cost + suc r) (suc (cand.rd.cost + suc r)) rd (suc r) cand (omega arith) (omega arith))

pub diamond-narrows : (rd : CostOf) (r : ℕ) (best : MotionSearchResult) → best.rd.cost ≤ (diamond_best rd (suc r) best.mv).rd.cost → diamond_at rd (suc r) best ≡ diamond_at rd r best
unfolding diamond_at diamond_from
diamond-narrows rd r best h =
    rw (le-ltb (diamond_best rd (suc r) best.mv).rd.cost best.rd.cost h)
    (enough (best.rd.cost + suc r) (suc (best.rd.cost + r)) rd r best (omega arith) (omega arith))

pub diamond-stops : (rd : CostOf) (best : MotionSearchResult) → best.rd.cost ≤ (diamond_best rd 0 best.mv).rd.cost → diamond_at rd 0 best ≡ best
unfolding diamond_at diamond_from
diamond-stops rd best h = rw (le-ltb (diamond_best rd 0 best.mv).rd.cost best.rd.cost h)

-- what holds of the record of every vector in range holds of all that the search hands back
module _ (rd : CostOf) (Q : MotionSearchResult → Type 0) (ok : (v : MotionVector) → (rd v).cost < most_cost → Q (record { mv = v; rd = rd v })) where
  pub sound_diamond : (r : ℕ) (centre : MotionVector) → Sound rd Q ok (diamond_best rd r centre)
  unfolding diamond_best
  sound_diamond r centre = sound_pattern rd Q ok empty_result (Diamond r) centre (sound_empty rd Q ok)

  pub kept_move : (r : ℕ) (best : MotionSearchResult) → Kept rd Q ok best → (diamond_best rd r best.mv).rd.cost < best.rd.cost → Kept rd Q ok (diamond_best rd r best.mv)
  kept_move r best k less =
      let s = sound_diamond r best.mv in
      record { most = s.most; holds = s.holds (omega (arith, k.most)) }

  from_kept : (n r : ℕ) (best : MotionSearchResult) (t : Bool) → ltb (diamond_best rd r best.mv).rd.cost best.rd.cost ≡ t → Kept rd Q ok best → Kept rd Q ok (diamond_from n rd r best)
  unfolding diamond_from
  from_kept zero r best t e k = k
  from_kept (suc n) zero best true e k =
      let cand = diamond_best rd zero best.mv in
      rw e (from_kept n zero cand (ltb (diamond_best rd zero cand.mv).rd.cost cand.rd.cost) refl (kept_move zero best k (ltb-true cand.rd.cost best.rd.cost e)))
  from_kept (suc n) zero best false e k = rw e k
  from_kept (suc n) (suc r) best true e k =
      let cand = diamond_best rd (suc r) best.mv in
      rw e (from_kept n (suc r) cand (ltb (diamond_best rd (suc r) cand.mv).rd.cost cand.rd.cost) refl (kept_move (suc r) best k (ltb-true cand.rd.cost best.rd.cost e)))
  from_kept (suc n) (suc r) best false e k = rw e (from_kept n r best (ltb (diamond_best rd r best.mv).rd.cost best.rd.cost) refl k)

  pub kept-diamond : (best : MotionSearchResult) → Kept rd Q ok best → Kept rd Q ok (diamond rd best)
  unfolding diamond diamond_at
  kept-diamond best k = from_kept (suc (best.rd.cost + 1)) 1 best (ltb (diamond_best rd 1 best.mv).rd.cost best.rd.cost) refl k
