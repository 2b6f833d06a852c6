-- A vector in range at one level gives the next level's refinement of the same block a window that is not empty. Assumes nothing.
use mathlib.Core.Path.{◌≡◌, sym, ap, ap₂, ◌∙◌}
use mathlib.Core.Bool.{Bool, true, false, cond, ◌&&◌}
use Prim.Native.Nat.{ℕ, suc, ◌+◌, ◌-◌, ◌*◌, ◌/◌, ◌^◌, ◌≤◌, ◌<◌}
use native.Mathlib.Nat.{add-mul, mul_comm, mul_assoc, mul-div_left, mul-add-div_right, div-eq_of_lt, lt_of_mul-lt-mul_right, pow-succ'}
use native.Mathlib.Omega.{arith}
use borrow.Author.Tests.{ltb-true, lt-ltb}
use lib.Dec.{ltb}
use lib.IntN.{ℤ, pos, negsuc, neg_ℤ, nat_abs, ◌+ℤ◌, ◌-ℤ◌, ◌*ℤ◌}
use lib.Pow.{pow_pos}
use lib.Signed.{mag, lt_z, quot_z, shr_z}
use mir.Syntax.{w16}
use mir.Val.{SFits}
use Rattle.ground.proofs.Bias.{bias, Small, bias_add, bias_minus, bias_negpos, bias_quot_up, bias_quot_down, lt_z-bias, small_by, up-bias}
use Rattle.ground.proofs.Words.{shr_fits, eighth_bounds}
use Rattle.motion.specs.declared.vector.MotionVector.{MotionVector}
use Rattle.motion.specs.Limits.{vector_limit}
use Rattle.motion.specs.Vector.{shl_v}
use Rattle.motion.specs.Level.{level_of}
use Rattle.motion.specs.Frame.{Side, Starts, Sized, own4, own3}
use Rattle.motion.specs.Range.{range_of, within, in_range}
use Rattle.motion.specs.Block.{block_of}
use Rattle.motion.proofs.RangeLaws.{Between, in_range_parts}
use Rattle.motion.proofs.AxisLaws.{low_at, high_at, Distances, shr_down, distances, down-clipped, in_range_by}
use Rattle.motion.proofs.BlockLaws.{Ends, axis_ends, shl_fits}
use Rattle.points.specs.Window.{larger, smaller, span_count, refine_span, refine_window, window_ok}
use Rattle.points.proofs.SpanLaws.{word_small, larger-is, smaller-is, reach, lo_size, hi_size}
use Rattle.points.proofs.WindowLaws.{around}

-- divided by 8 toward zero, a number at most one above another stays so
quot_keeps : (a b : ℤ) → Small a → Small b → bias a ≤ bias b + 1 → bias (quot_z a (pos 8)) ≤ bias (quot_z b (pos 8)) + 1
quot_keeps (pos m) (pos n) ha hb h = omega arith
quot_keeps (pos m) (negsuc n) ha hb h = omega (arith, bias_negpos (suc n / 8) (omega arith))
quot_keeps (negsuc m) (pos n) ha hb h = omega (arith, bias_negpos (suc m / 8) (omega arith))
quot_keeps (negsuc m) (negsuc n) ha hb h = omega (arith, bias_negpos (suc m / 8) (omega arith), bias_negpos (suc n / 8) (omega arith))

-- from lo to hi there is an offset, where lo is not above hi
module _ (lo hi : ℤ) (ml : mag lo ≤ 8192) (mh : mag hi ≤ 8192) (order : bias lo ≤ bias hi) where
  some-by : (t : Bool) → ltb (bias hi) (bias lo) ≡ t → 0 < cond t 0 (nat_abs (hi -ℤ lo +ℤ pos 1))
  some-by true e = absurd (omega (arith, ltb-true (bias hi) (bias lo) e))
  some-by false e =
      let far = reach lo hi ml mh in
      omega (arith, (up-bias (hi -ℤ lo +ℤ pos 1) (omega arith)).1)

  count_some : 0 < span_count lo hi
  unfolding span_count
  count_some = some-by (lt_z hi lo) (sym (lt_z-bias hi lo (omega arith) (omega arith)))

-- a stored component that stands, at the shift, between the ends or one below them
module _ {min max stored : ℤ} (ends : Ends min max) (fits : SFits w16 stored) (s : ℕ) where
  span_some : bias min ≤ bias (shr_z stored (2 ^ s)) + 1 → bias (shr_z stored (2 ^ s)) ≤ bias max → 0 < (refine_span min max stored s).count
  unfolding refine_span
  span_some low high =
      let fn = ends.low_fits in
      let fx = ends.high_fits in
      let z = shr_z stored (2 ^ s) in
      let fz = shr_fits fits (2 ^ s) in
      let zero = around ends in
      let q = quot_z z (pos 8) in
      let first = quot_z min (pos 8) in
      let last = quot_z max (pos 8) in
      let hi = smaller (q +ℤ pos 2) last in
      let bounds = eighth_bounds z fz in
      let small : Small q = omega (arith, small_by q 4096 bounds.0 (omega (arith, bounds.1)) (omega arith)) in
      let minus = bias_minus q (pos 1) small (omega arith) in
      let plus = bias_add q (pos 2) small (omega arith) in
      let least = quot_keeps min z (word_small fn) (word_small fz) low in
      let most = quot_keeps z max (word_small fz) (word_small fx) (omega arith) in
      let order : bias first ≤ bias last = omega (arith, bias_quot_down min zero.0 (word_small fn), bias_quot_up max zero.1 (word_small fx)) in
      let under : (a : ℤ) → bias a ≤ bias q + 2 → bias a ≤ bias last → bias a ≤ bias hi = λ a one other. smaller-is (λ c. bias a ≤ bias c) _ _ (omega arith) other in
      count_some (larger (q -ℤ pos 1) first) hi (lo_size min max stored s fn fx fits) (hi_size min max stored s fn fx fits)
      (larger-is (λ c. bias c ≤ bias hi) _ _ (under (q -ℤ pos 1) (omega arith) (omega arith)) (under first (omega arith) order))

-- shifted left by s + 1 and right by s, a component is doubled
shifted : (n s : ℕ) → n * 2 ^ suc s ≡ n * 2 * 2 ^ s
shifted n s = ap (λ (m : ℕ). n * m) (pow-succ' 2 s) ∙ sym (mul_assoc n 2 (2 ^ s))

twice : (v : ℤ) (s : ℕ) → shr_z (v *ℤ pos (2 ^ suc s)) (2 ^ s) ≡ v *ℤ pos 2
twice (pos n) s = ap pos (ap (λ (m : ℕ). m / 2 ^ s) (shifted n s) ∙ mul-div_left (n * 2) (pow_pos s))
twice (negsuc n) s =
    let k = 2 ^ s in
    let nothing : (k - 1) / k ≡ 0 = div-eq_of_lt (omega (arith, pow_pos s)) in
    let whole : (suc n * 2 ^ suc s + (k - 1)) / k ≡ suc n * 2 =
    ap (λ (m : ℕ). (m + (k - 1)) / k) (shifted (suc n) s) ∙ omega (arith, mul-add-div_right (pow_pos s) (suc n * 2) (k - 1)) in
    shr_down (suc n * 2 ^ suc s) k (pow_pos s) ∙ ap (λ (m : ℕ). neg_ℤ (pos m)) whole

-- a component between two ends is, doubled, between the ends doubled
doubled_between : (m n : ℕ) (v : ℤ) → m ≤ vector_limit → Between m n v → (2 ^ 40 ≤ bias (v *ℤ pos 2) + 2 * m) × (bias (v *ℤ pos 2) ≤ 2 ^ 40 + 2 * n)
doubled_between m n (pos x) hm h = omega arith
doubled_between m n (negsuc x) hm h = omega (arith, bias_negpos (suc x * 2) (omega arith))

-- one axis at two shifts: an end, doubled, is no farther out than the next shift's, but for the unit that the low end was rounded by
module _ {side size b s : ℕ} (before : Distances side size b (suc s)) (now : Distances side size b s) where
  down-doubled : 2 * before.down ≤ suc now.down
  down-doubled =
      let m = before.down in
      let n = now.down in
      let k = 2 ^ s in
      let less : 2 * m < n + 2 =
      lt_of_mul-lt-mul_right k (omega (arith, before.down-most, now.down-least, shifted m s, pow-succ' 2 s, mul_comm m 2, add-mul n 2 k)) in
      omega arith

  up-doubled : 2 * before.up ≤ now.up
  up-doubled =
      let m = before.up in
      let n = now.up in
      let k = 2 ^ s in
      let less : 2 * m < n + 1 =
      lt_of_mul-lt-mul_right k (omega (arith, before.up-most, now.up_least, shifted m s, mul_comm m 2, add-mul n 1 k)) in
      omega arith

-- the window round a component that was in range at the shift before has an offset
component_at : {side size b : ℕ} (s : ℕ) → Starts side size b → (v : ℤ) → SFits w16 (v *ℤ pos (2 ^ suc s)) → within (low_at side size b (suc s)) v (high_at side size b (suc s)) ≡ true → 0 < (refine_span (low_at side size b s) (high_at side size b s) (v *ℤ pos (2 ^ suc s)) s).count
component_at s starts v fits h =
    let before = distances (suc s) starts in
    let now = distances s starts in
    let near = doubled_between before.down before.up v (down-clipped before) (in_range_by before v h) in
    let same = ap bias (twice v s) in
    span_some (axis_ends s starts) fits s
    (omega (arith, near.0, down-doubled before now, ap bias now.low_is, bias_negpos now.down (omega (arith, down-clipped now))))
    (omega (arith, near.1, up-doubled before now, ap bias now.high_is))

-- a level that refines, and the size that it refines, which is the level before's own
pub data Refines : ℕ → ℕ → Type 0 where
  three-64 : Refines 3 64
  two-32 : Refines 2 32

before-sized : {level size : ℕ} → Refines level size → Sized (level_of (suc level)) size
unfolding level_of
before-sized three-64 = own4
before-sized two-32 = own3

-- one axis
component_some : {level size side b : ℕ} → Refines level size → Starts side size b → (v : ℤ) → SFits w16 (v *ℤ pos (2 ^ (level_of (suc level)).ssdec)) → within (low_at side size b (level_of (suc level)).ssdec) v (high_at side size b (level_of (suc level)).ssdec) ≡ true → 0 < (refine_span (low_at side size b (level_of level).ssdec) (high_at side size b (level_of level).ssdec) (v *ℤ pos (2 ^ (level_of (suc level)).ssdec)) (level_of level).ssdec).count
unfolding level_of
component_some three-64 starts v fits h = component_at 1 starts v fits h
component_some two-32 starts v fits h = component_at 0 starts v fits h

-- both axes
pub window_some : {level size W H bx by : ℕ} (r : Refines level size) → Side W → Side H → Starts W size bx → Starts H size by → (v : MotionVector) → in_range (block_of W H (level_of (suc level)) size bx by).range v ≡ true → window_ok (refine_window (block_of W H (level_of level) size bx by).range (shl_v v (level_of (suc level)).ssdec) (level_of level).ssdec) ≡ true
unfolding block_of range_of refine_window window_ok shl_v
window_some {level} {size} {W} {H} {bx} {by} r wide high across down v h =
    let fits = shl_fits (before-sized r) wide high across down v h in
    let parts = in_range_parts (block_of W H (level_of (suc level)) size bx by).range v h in
    ap₂ ◌&&◌ (lt-ltb 0 _ (component_some r down v.row fits.row parts.1)) (lt-ltb 0 _ (component_some r across v.col fits.col parts.0))
