-- What holds of every block of a frame: its range goes from below zero to above it, a vector in range shifted left by s fits
-- 16 bits, and the block is not empty. Assumes nothing.
use mathlib.Core.Path.{◌≡◌, refl, sym, ap₂, subst₂}
use mathlib.Core.Bool.{true, ◌&&◌}
use Prim.Native.Nat.{ℕ, zero, suc, ◌-◌, ◌*◌, ◌/◌, ◌^◌, ◌≤◌, ◌<◌, zero-le}
use native.Mathlib.Nat.{mul-le-mul_right, le-div_iff_mul-le}
use native.Mathlib.Omega.{arith}
use borrow.Author.Tests.{le-leb}
use lib.IntN.{ℤ, pos, negsuc, neg_ℤ, ◌*ℤ◌}
use lib.Pow.{pow_pos}
use lib.Signed.{le_z}
use mir.Syntax.{w16}
use mir.Val.{SFits}
use Rattle.ground.proofs.Bias.{mag-neg}
use Rattle.motion.specs.declared.level.Level.{Level}
use Rattle.motion.specs.declared.range.MvRange.{MvRange}
use Rattle.motion.specs.declared.vector.MotionVector.{MotionVector}
use Rattle.motion.specs.Limits.{vector_limit}
use Rattle.motion.specs.Vector.{FitsV, zero_v, shl_v}
use Rattle.motion.specs.Frame.{Side, Starts, Sized, own4, own3, own2, refined3, refined2}
use Rattle.motion.specs.Range.{range_of, within, in_range}
use Rattle.motion.specs.Block.{cropped_to, block_of}
use Rattle.motion.proofs.RangeLaws.{Between, in_range_parts}
use Rattle.motion.proofs.AxisLaws.{fitting, low_at, high_at, distances, down-clipped, up-clipped, down-back, in_range_by}

-- two ends of 16 bits with zero between them
pub record Ends (low high : ℤ) : Type 0 where
  pub down : le_z low (pos 0) ≡ true
  pub up : le_z (pos 0) high ≡ true
  pub low_fits : SFits w16 low
  pub high_fits : SFits w16 high

-- a range that has zero between its ends on both axes
pub record Straddles (r : MvRange) : Type 0 where
  pub across : Ends r.mvx_min r.mvx_max
  pub along : Ends r.mvy_min r.mvy_max

-- zero is in such a range
pub zero_in : {r : MvRange} → Straddles r → in_range r zero_v ≡ true
unfolding in_range within
zero_in s = ap₂ ◌&&◌ (ap₂ ◌&&◌ s.across.down s.across.up) (ap₂ ◌&&◌ s.along.down s.along.up)

not-up : (m : ℕ) → le_z (neg_ℤ (pos m)) (pos 0) ≡ true
not-up zero = refl
not-up (suc m) = refl

ends_by : (m n : ℕ) → m ≤ vector_limit → n ≤ vector_limit → Ends (neg_ℤ (pos m)) (pos n)
ends_by m n hm hn =
    record {
      down = not-up m;
      up = le-leb 0 n zero-le;
      low_fits = record { sfits = omega (arith, mag-neg m {a = m} (omega arith)) };
      high_fits = record { sfits = omega arith };
    }

-- a multiple of a component fits where those of both ends do
times-fits : (m n k : ℕ) (z : ℤ) → m * k ≤ 2 ^ 15 → n * k < 2 ^ 15 → Between m n z → SFits w16 (z *ℤ pos k)
times-fits m n k (pos x) hm hn h = record { sfits = omega (arith, mul-le-mul_right k h) }
times-fits m n k (negsuc x) hm hn h =
    let least = mul-le-mul_right k h in
    record { sfits = omega (arith, mag-neg (suc x * k) {a = 2 ^ 15 - 1} (omega arith)) }

size_least : {l : Level} {size : ℕ} → Sized l size → 4 ≤ size
size_least own4 = omega arith
size_least own3 = omega arith
size_least own2 = omega arith
size_least refined3 = omega arith
size_least refined2 = omega arith

shift_most : (s : ℕ) → s ≤ 2 → 2 ^ s ≤ 4
shift_most zero h = omega arith
shift_most (suc zero) h = omega arith
shift_most (suc (suc zero)) h = omega arith
shift_most (suc (suc (suc s))) h = absurd (omega arith)

-- one axis
pub axis_ends : {side size b : ℕ} (s : ℕ) → Starts side size b → Ends (low_at side size b s) (high_at side size b s)
axis_ends s starts =
    let r = distances s starts in
    subst₂ Ends (sym r.low_is) (sym r.high_is) (ends_by r.down r.up (down-clipped r) (up-clipped r))

module _ {l : Level} {size side b : ℕ} (sized : Sized l size) (starts : Starts side size b) where
  -- an end, shifted back, is at most 16,384 from zero, which 16 bits hold
  axis_shl : (z : ℤ) → within (low_at side size b l.ssdec) z (high_at side size b l.ssdec) ≡ true → SFits w16 (z *ℤ pos (2 ^ l.ssdec))
  axis_shl z h =
      let r = distances l.ssdec starts in
      times-fits r.down r.up (2 ^ l.ssdec) z (omega (arith, down-back r (fitting sized).shift)) (omega (arith, r.up-most)) (in_range_by r z h)

  -- a cropped side is a cell or more, and 2 ^ s at most a cell
  axis_some : 0 < cropped_to side size b / 2 ^ l.ssdec
  unfolding cropped_to
  axis_some =
      (le-div_iff_mul-le (pow_pos l.ssdec)).1
      (omega (arith, shift_most l.ssdec (fitting sized).shift, size_least sized, starts.inside))

module _ {l : Level} {size W H bx by : ℕ} (sized : Sized l size) (wide : Side W) (high : Side H) (across : Starts W size bx) (down : Starts H size by) where
  pub straddles : Straddles (block_of W H l size bx by).range
  unfolding block_of range_of
  straddles = record { across = axis_ends l.ssdec across; along = axis_ends l.ssdec down }

  pub zero-in_range : in_range (block_of W H l size bx by).range zero_v ≡ true
  zero-in_range = zero_in straddles

  -- a vector in range, shifted left by s, fits
  pub shl_fits : (v : MotionVector) → in_range (block_of W H l size bx by).range v ≡ true → FitsV (shl_v v l.ssdec)
  unfolding block_of range_of shl_v
  shl_fits v h =
      let both = in_range_parts (block_of W H l size bx by).range v h in
      record { row = axis_shl sized down v.row both.1; col = axis_shl sized across v.col both.0 }

  -- the block has at least one column and one row
  pub some-columns : 0 < (block_of W H l size bx by).w
  unfolding block_of
  some-columns = axis_some sized across

  pub some-rows : 0 < (block_of W H l size bx by).h
  unfolding block_of
  some-rows = axis_some sized down
