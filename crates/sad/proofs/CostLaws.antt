-- The cost of a candidate by cases, and the bounds that make u32 and u64 enough. Assumes nothing.
use mathlib.Core.Path.{◌≡◌, ap, ap₂}
use mathlib.Core.Bool.{Bool, true, false, cond}
use mathlib.Core.Logic.{◌⊎◌, inl, inr}
use mathlib.Core.List.{List}
use Prim.Native.Nat.{ℕ, ◌+◌, ◌*◌, ◌≤◌, ◌<◌, ◌^◌}
use native.Mathlib.Nat.{le_trans, mul-le-mul, mul-le-mul_left, mul-le-mul_right}
use native.Mathlib.Omega.{arith}
use lib.ListN.{get_or}
use Rattle.ground.proofs.TestLaws.{tested}
use Rattle.motion.specs.declared.block.Block.{Block}
use Rattle.motion.specs.declared.vector.MotionVector.{MotionVector}
use Rattle.motion.specs.Limits.{largest_sample}
use Rattle.motion.specs.Range.{in_range}
use Rattle.motion.proofs.RateLaws.{rate_v-le}
use Rattle.sad.specs.Sad.{sad_block}
use Rattle.sad.specs.Asked.{largest_block, Measured, Lies}
use Rattle.sad.specs.Plane.{org_start, ref_start}
use Rattle.sad.specs.Cost.{empty_rd, rd_of, sad_at, rd_at, sad_limit}
use Rattle.sad.proofs.Sums.{Under, block_le, block_same}

-- the largest sum that a block of bytes has
abbrev pub most_sad : ℕ
most_sad = largest_sample * largest_block * largest_block

module _ (b : Block) (cur ref : List ℕ) (v : MotionVector) where
  pub rd_in : in_range b.range v ≡ true → rd_at b cur ref v ≡ rd_of b.weight (sad_at b cur ref v) v
  unfolding rd_at
  rd_in h = ap (λ (t : Bool). cond t (rd_of b.weight (sad_at b cur ref v) v) empty_rd) h

  pub rd_out : in_range b.range v ≡ false → rd_at b cur ref v ≡ empty_rd
  unfolding rd_at
  rd_out h = ap (λ (t : Bool). cond t (rd_of b.weight (sad_at b cur ref v) v) empty_rd) h

  -- samples differ by at most 65,535
  pub sad-area : Under largest_sample cur → Under largest_sample ref → sad_at b cur ref v ≤ largest_sample * b.w * b.h
  unfolding sad_at
  sad-area hc hr = block_le largest_sample cur ref hc hr (org_start b) (ref_start b v) b.stride b.w b.h

  pub sad-most : Measured b → Under largest_sample cur → Under largest_sample ref → sad_at b cur ref v ≤ most_sad
  sad-most m hc hr = le_trans (sad-area hc hr) (mul-le-mul {m₁ = b.h} {n₂ = largest_sample * largest_block} (mul-le-mul_left largest_sample m.wide) m.high)

-- a cost stays far below the largest u64, which only a vector out of range has
pub cost_most : (weight sad : ℕ) (v : MotionVector) → weight < 2 ^ 32 → sad < 2 ^ 32 → (rd_of weight sad v).cost < 2 ^ 41
unfolding rd_of
cost_most weight sad v hw hs = omega (arith, mul-le-mul_right weight (rate_v-le v))

-- in range, a block of bytes costs that little
pub in_range_most : (b : Block) (cur ref : List ℕ) (v : MotionVector) → Measured b → Under largest_sample cur → Under largest_sample ref → b.weight < 2 ^ 32 → in_range b.range v ≡ true → (rd_at b cur ref v).cost < 2 ^ 41
in_range_most b cur ref v m hc hr hw h =
    rw (rd_in b cur ref v h) (cost_most b.weight (sad_at b cur ref v) v hw (omega (arith, sad-most b cur ref v m hc hr)))

-- a sum that reaches the limit makes the cost
pub limit_lost : (cost rate sad : ℕ) → sad_limit cost rate ≤ sad → cost ≤ 256 * sad + rate
unfolding sad_limit
limit_lost cost rate sad reached = omega arith

-- a vector in range, measured from where the two blocks start
module _ (b : Block) (v : MotionVector) (held : in_range b.range v ≡ true) (s d : ℕ) (org : s ≡ org_start b) (ref : d ≡ ref_start b v) where
  pub sad-from : (cur refs : List ℕ) → sad_block cur s refs d b.stride b.w b.h ≡ sad_at b cur refs v
  unfolding sad_at
  sad-from cur refs = ap₂ (λ (s d : ℕ). sad_block cur s refs d b.stride b.w b.h) org ref

-- nor do samples past those that a block lies in
module _ (b : Block) (n : ℕ) (cur cur' ref ref' : List ℕ) (lies : Lies b n) (hc : (k : ℕ) → k < n → get_or cur k 0 ≡ get_or cur' k 0) (hr : (k : ℕ) → k < n → get_or ref k 0 ≡ get_or ref' k 0) where
  rd_by : (v : MotionVector) → (in_range b.range v ≡ true) ⊎ (in_range b.range v ≡ false) → rd_at b cur ref v ≡ rd_at b cur' ref' v
  unfolding rd_at sad_at
  rd_by v (inl e) =
      ap (λ (s : ℕ). cond (in_range b.range v) (rd_of b.weight s v) empty_rd)
      (block_same n cur cur' ref ref' hc hr (org_start b) (ref_start b v) b.stride b.w b.h lies.org (lies.ref v e))
  rd_by v (inr e) = rw e

  pub rd_same : rd_at b cur ref ≡ rd_at b cur' ref'
  rd_same = λ i v. rd_by v (tested (in_range b.range v)) i
