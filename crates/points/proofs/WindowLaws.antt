-- A law of a refinement's window: every candidate is in range. Assumes nothing.
use mathlib.Core.Path.{◌≡◌, sym, ap₂, ◌∙◌}
use mathlib.Core.Bool.{true, ◌&&◌}
use Prim.Native.Nat.{ℕ, suc, ◌+◌, ◌*◌, ◌^◌, ◌≤◌, ◌<◌}
use native.Mathlib.Omega.{arith}
use borrow.Author.Tests.{leb-true, le-leb}
use lib.IntN.{ℤ, pos, negsuc, ◌+ℤ◌, ◌*ℤ◌}
use mir.Syntax.{w16}
use mir.Val.{SFits}
use Rattle.ground.proofs.Bias.{bias, Small, bias_negpos, bias_quot_up, bias_quot_down, le_z-bias}
use Rattle.ground.proofs.Words.{eighth_bounds}
use Rattle.motion.specs.declared.vector.MotionVector.{MotionVector}
use Rattle.motion.specs.declared.range.MvRange.{MvRange}
use Rattle.motion.specs.Vector.{FitsV}
use Rattle.motion.specs.Range.{within, in_range}
use Rattle.motion.proofs.BlockLaws.{Ends, Straddles}
use Rattle.points.specs.Window.{refine_span, span_at, refine_window}
use Rattle.points.proofs.SpanLaws.{word_small, moved, span_fits, lo_fits, between, refine-spanned}

-- eight times a number
bias_eight : (z : ℤ) → 2 ^ 40 ≤ bias z + 2 ^ 30 → bias (pos 8 *ℤ z) + 7 * 2 ^ 40 ≡ 8 * bias z
bias_eight (pos n) h = omega arith
bias_eight (negsuc n) h = omega (arith, bias_negpos (8 * suc n) (omega arith))

-- zero lies between the ends
pub around : {low high : ℤ} → Ends low high → (bias low ≤ 2 ^ 40) × (2 ^ 40 ≤ bias high)
around {low} {high} ends = (
  leb-true (bias low) (2 ^ 40) (sym (le_z-bias low (pos 0) (word_small ends.low_fits) (omega arith)) ∙ ends.down),
  leb-true (2 ^ 40) (bias high) (sym (le_z-bias (pos 0) high (omega arith) (word_small ends.high_fits)) ∙ ends.up),
)

-- one axis: an offset from min/8 to max/8 is, in eighths, from min to max, as zero lies between them
module _ {min max stored : ℤ} (ends : Ends min max) (fits : SFits w16 stored) (s : ℕ) where
  axis_in : (k : ℕ) → k < (refine_span min max stored s).count → within min (span_at (refine_span min max stored s).lo k) max ≡ true
  unfolding within span_at
  axis_in k h =
      let lo = (refine_span min max stored s).lo in
      let z = lo +ℤ pos k in
      let fn = ends.low_fits in
      let fx = ends.high_fits in
      let lofits = lo_fits min max stored s fn fx fits in
      let spanned = refine-spanned min max stored s fn fx fits k h in
      let small : Small (pos 8 *ℤ z) = word_small (span_fits lo k lofits spanned) in
      let zero = around ends in
      let inside = between min max stored s fn fx fits k h in
      let qn = bias_quot_down min zero.0 (word_small fn) in
      let qx = bias_quot_up max zero.1 (word_small fx) in
      let sum = moved lo k lofits spanned in
      let eight = bias_eight z (omega (arith, (eighth_bounds min fn).0)) in
      ap₂ ◌&&◌ (le_z-bias min (pos 8 *ℤ z) (word_small fn) small ∙ le-leb (bias min) (bias (pos 8 *ℤ z)) (omega arith))
      (le_z-bias (pos 8 *ℤ z) max small (word_small fx) ∙ le-leb (bias (pos 8 *ℤ z)) (bias max) (omega arith))

-- no candidate of a refinement is out of range
pub window_in_range : {r : MvRange} {stored : MotionVector} → Straddles r → FitsV stored → (s j k : ℕ) → j < (refine_window r stored s).rows.count → k < (refine_window r stored s).cols.count → in_range r (record { row = span_at (refine_window r stored s).rows.lo j; col = span_at (refine_window r stored s).cols.lo k }) ≡ true
unfolding refine_window in_range
window_in_range {r} {stored} st f s j k hj hk =
    ap₂ ◌&&◌ (axis_in st.across f.col s k hk) (axis_in st.along f.row s j hj)
