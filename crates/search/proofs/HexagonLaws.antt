-- Laws of the hexagon: a point tried, a move and the stop, and that more turns change nothing. Assumes nothing.
use mathlib.Core.Path.{◌≡◌, refl, sym, ap, subst}
use mathlib.Core.Bool.{Bool, true, false, cond}
use Prim.Native.Nat.{ℕ, zero, suc, ◌+◌, ◌%◌, ◌≤◌, ◌<◌}
use native.Mathlib.Numerals.{add-one}
use native.Mathlib.Omega.{arith}
use borrow.Author.Tests.{lt-ltb, le-ltb, ltb-true}
use lib.Dec.{ltb}
use Rattle.motion.specs.declared.vector.MotionVector.{MotionVector}
use Rattle.points.specs.declared.patterns.Pattern.TheVariants.{Square}
use Rattle.points.specs.Patterns.{hexagon_point}
use Rattle.search.specs.declared.result.MotionSearchResult.{MotionSearchResult}
use Rattle.search.specs.declared.hexagon.HexCand.{HexCand}
use Rattle.search.specs.Result.{CostOf, empty_result, cheaper, try_pattern}
use Rattle.search.specs.Hexagon.{try_index, tried_to, hexagon_six, hexagon_three, hexagon_from, hexagon_at, square_round, hexagon}
use Rattle.search.proofs.ResultLaws.{most_cost, Sound, sound_empty, sound_cheaper, sound_pattern, Kept, kept-cheaper}

module _ (rd : CostOf) (centre : MotionVector) where
  pub index_taken : (cand : HexCand) (i : ℕ) → (rd (hexagon_point centre i)).cost < cand.best.rd.cost → try_index rd centre cand i ≡ record { idx = i; best = record { mv = hexagon_point centre i; rd = rd (hexagon_point centre i) } }
  unfolding try_index
  index_taken cand i h = rw (lt-ltb (rd (hexagon_point centre i)).cost cand.best.rd.cost h)

  pub index_left : (cand : HexCand) (i : ℕ) → cand.best.rd.cost ≤ (rd (hexagon_point centre i)).cost → try_index rd centre cand i ≡ cand
  unfolding try_index
  index_left cand i h = rw (le-ltb (rd (hexagon_point centre i)).cost cand.best.rd.cost h)

  pub tried_none : tried_to rd centre 0 ≡ record { idx = 0; best = empty_result }
  unfolding tried_to
  tried_none = refl

  pub tried_more : (i : ℕ) → tried_to rd centre (i + 1) ≡ try_index rd centre (tried_to rd centre i) i
  unfolding tried_to
  tried_more i = ap (tried_to rd centre) (add-one i)

-- an index stays one of the six
index_by : (cand : HexCand) (v : MotionSearchResult) (i : ℕ) (t : Bool) → i < 6 → cand.idx < 6 → (cond t (record { idx = i; best = v }) cand).idx < 6
index_by cand v i true hi hc = hi
index_by cand v i false hi hc = hc

module _ (rd : CostOf) (centre : MotionVector) where
  index_small : (cand : HexCand) (i : ℕ) → i < 6 → cand.idx < 6 → (try_index rd centre cand i).idx < 6
  unfolding try_index
  index_small cand i hi hc =
      let v = hexagon_point centre i in
      index_by cand (record { mv = v; rd = rd v }) i (ltb (rd v).cost cand.best.rd.cost) hi hc

  tried_small : (n : ℕ) → n ≤ 6 → (tried_to rd centre n).idx < 6
  unfolding tried_to
  tried_small zero h = omega arith
  tried_small (suc n) h = index_small (tried_to rd centre n) n h (tried_small n (omega arith))

  pub six-small : (hexagon_six rd centre).idx < 6
  unfolding hexagon_six
  six-small = tried_small 6 (omega arith)

  pub three-small : (i : ℕ) → i < 6 → (hexagon_three rd centre i).idx < 6
  unfolding hexagon_three
  three-small i h =
      index_small _ ((i + 1) % 6) (omega arith)
      (index_small _ i h (index_small (record { idx = i; best = empty_result }) ((i + 5) % 6) (omega arith) h))

-- more turns than the cost change nothing
from_by : (n m : ℕ) (rd : CostOf) (best : MotionSearchResult) (cand : HexCand) → best.rd.cost < n → best.rd.cost < m → (t : Bool) → ltb cand.best.rd.cost best.rd.cost ≡ t → hexagon_from n rd best cand ≡ hexagon_from m rd best cand
unfolding hexagon_from
from_by zero m rd best cand hn hm t e = absurd (omega arith)
from_by (suc n) zero rd best cand hn hm t e = absurd (omega arith)
from_by (suc n) (suc m) rd best cand hn hm true e =
    let less = ltb-true cand.best.rd.cost best.rd.cost e in
    let next = hexagon_three rd cand.best.mv cand.idx in
    rw e (from_by n m rd cand.best next (omega arith) (omega arith) (ltb next.best.rd.cost cand.best.rd.cost) refl)
from_by (suc n) (suc m) rd best cand hn hm false e = rw e

pub enough : (n m : ℕ) (rd : CostOf) (best : MotionSearchResult) (cand : HexCand) → best.rd.cost < n → best.rd.cost < m → hexagon_from n rd best cand ≡ hexagon_from m rd best cand
enough n m rd best cand hn hm = from_by n m rd best cand hn hm (ltb cand.best.rd.cost best.rd.cost) refl

module _ (rd : CostOf) (best : MotionSearchResult) (cand : HexCand) where
  -- the loop's two ways
  pub hexagon-moves : cand.best.rd.cost < best.rd.cost → hexagon_at rd best cand ≡ hexagon_at rd cand.best (hexagon_three rd cand.best.mv cand.idx)
  unfolding hexagon_at hexagon_from
  hexagon-moves h =
      rw (lt-ltb cand.best.rd.cost best.rd.cost h)
      (enough best.rd.cost (suc cand.best.rd.cost) rd cand.best (hexagon_three rd cand.best.mv cand.idx) h (omega arith))

  pub hexagon-stops : best.rd.cost ≤ cand.best.rd.cost → hexagon_at rd best cand ≡ best
  unfolding hexagon_at hexagon_from
  hexagon-stops h = rw (le-ltb cand.best.rd.cost best.rd.cost h)

-- what holds of the record of every vector in range holds of a round's cheapest, and of all that the search hands back
module _ (rd : CostOf) (Q : MotionSearchResult → Type 0) (ok : (v : MotionVector) → (rd v).cost < most_cost → Q (record { mv = v; rd = rd v })) where
  best_by : (cand : HexCand) (v : MotionSearchResult) (i : ℕ) (t : Bool) → (cond t (record { idx = i; best = v }) cand).best ≡ cond t v cand.best
  best_by cand v i true = refl
  best_by cand v i false = refl

  sound_index : (centre : MotionVector) (cand : HexCand) (i : ℕ) → Sound rd Q ok cand.best → Sound rd Q ok (try_index rd centre cand i).best
  unfolding try_index cheaper
  sound_index centre cand i s =
      let v = hexagon_point centre i in
      let new : MotionSearchResult = record { mv = v; rd = rd v } in
      subst (Sound rd Q ok) (sym (best_by cand new i (ltb (rd v).cost cand.best.rd.cost))) (sound_cheaper rd Q ok cand.best new s (ok v))

  sound_tried : (centre : MotionVector) (n : ℕ) → Sound rd Q ok (tried_to rd centre n).best
  unfolding tried_to
  sound_tried centre zero = sound_empty rd Q ok
  sound_tried centre (suc n) = sound_index centre (tried_to rd centre n) n (sound_tried centre n)

  pub sound_six : (centre : MotionVector) → Sound rd Q ok (hexagon_six rd centre).best
  unfolding hexagon_six
  sound_six centre = sound_tried centre 6

  pub sound_three : (centre : MotionVector) (i : ℕ) → Sound rd Q ok (hexagon_three rd centre i).best
  unfolding hexagon_three
  sound_three centre i =
      sound_index centre _ ((i + 1) % 6)
      (sound_index centre _ i (sound_index centre (record { idx = i; best = empty_result }) ((i + 5) % 6) (sound_empty rd Q ok)))

  from_kept : (n : ℕ) (best : MotionSearchResult) (cand : HexCand) (t : Bool) → ltb cand.best.rd.cost best.rd.cost ≡ t → Kept rd Q ok best → Sound rd Q ok cand.best → Kept rd Q ok (hexagon_from n rd best cand)
  unfolding hexagon_from
  from_kept zero best cand t e k s = k
  from_kept (suc n) best cand true e k s =
      let less = ltb-true cand.best.rd.cost best.rd.cost e in
      let next = hexagon_three rd cand.best.mv cand.idx in
      let moved : Kept rd Q ok cand.best = record { most = s.most; holds = s.holds (omega (arith, k.most)) } in
      rw e (from_kept n cand.best next (ltb next.best.rd.cost cand.best.rd.cost) refl moved (sound_three cand.best.mv cand.idx))
  from_kept (suc n) best cand false e k s = rw e k

  pub kept-hexagon : (best : MotionSearchResult) → Kept rd Q ok best → Kept rd Q ok (hexagon rd best)
  unfolding hexagon square_round hexagon_at
  kept-hexagon best k =
      let six = hexagon_six rd best.mv in
      let done = hexagon_from (suc best.rd.cost) rd best six in
      let kept = from_kept (suc best.rd.cost) best six (ltb six.best.rd.cost best.rd.cost) refl k (sound_six best.mv) in
      kept-cheaper rd Q ok done (try_pattern rd empty_result Square done.mv) kept
      (sound_pattern rd Q ok empty_result Square done.mv (sound_empty rd Q ok)).holds
