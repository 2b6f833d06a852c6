-- Laws of windows: the larger and the smaller of two, how many offsets there are, and that 16 bits hold them. Assumes nothing.
use mathlib.Core.Path.{◌≡◌, sym, ◌∙◌}
use mathlib.Core.Bool.{Bool, true, false, cond}
use Prim.Native.Nat.{ℕ, suc, ◌+◌, ◌-◌, ◌*◌, ◌^◌, ◌≤◌, ◌<◌}
use native.Mathlib.Omega.{arith}
use borrow.Author.Tests.{leb-true, ltb-true, ltb-false, le-leb}
use lib.Dec.{ltb}
use lib.IntN.{ℤ, pos, negsuc, neg_ℤ, nat_abs, ◌+ℤ◌, ◌-ℤ◌, ◌*ℤ◌}
use lib.Signed.{mag, lt_z, quot_z, shr_z}
use mir.Syntax.{w16}
use mir.Val.{SFits}
use Rattle.ground.proofs.Bias.{bias, Small, mag-neg, mag-negℤ, mag-add, small_by, bias_add, bias_minus, le_z-bias, lt_z-bias, up-bias}
use Rattle.ground.proofs.Words.{shr_fits, eighth_bounds}
use Rattle.points.specs.Window.{larger, smaller, span_count, refine_span}
use Rattle.points.specs.Asked.{Spanned}

module _ {z : ℤ} (f : SFits w16 z) where
  pub word_small : Small z
  word_small = omega (arith, f.sfits)

-- the larger and the smaller are one of the two
larger-by : (P : ℤ → Type 0) (a b : ℤ) (t : Bool) → P a → P b → P (cond t b a)
larger-by P a b true pa pb = pb
larger-by P a b false pa pb = pa

pub larger-is : (P : ℤ → Type 0) (a b : ℤ) → P a → P b → P (larger a b)
unfolding larger
larger-is P a b pa pb = larger-by P a b (lt_z a b) pa pb

pub smaller-is : (P : ℤ → Type 0) (a b : ℤ) → P a → P b → P (smaller a b)
unfolding smaller
smaller-is P a b pa pb = larger-by P b a (lt_z a b) pb pa

-- and no smaller, no larger than the second
above_by : (a b : ℤ) (t : Bool) → ltb (bias a) (bias b) ≡ t → bias b ≤ bias (cond t b a)
above_by a b true e = omega arith
above_by a b false e = omega (arith, ltb-false (bias a) (bias b) e)

pub larger-above : (a b : ℤ) → Small a → Small b → bias b ≤ bias (larger a b)
unfolding larger
larger-above a b ha hb = above_by a b (lt_z a b) (sym (lt_z-bias a b ha hb))

below_by : (a b : ℤ) (t : Bool) → ltb (bias a) (bias b) ≡ t → bias (cond t a b) ≤ bias b
below_by a b true e = omega (arith, ltb-true (bias a) (bias b) e)
below_by a b false e = omega arith

pub smaller-below : (a b : ℤ) → Small a → Small b → bias (smaller a b) ≤ bias b
unfolding smaller
smaller-below a b ha hb = below_by a b (lt_z a b) (sym (lt_z-bias a b ha hb))

-- from lo to hi, both ends counted
module _ (lo hi : ℤ) (ml : mag lo ≤ 8192) (mh : mag hi ≤ 8192) where
  pub reach : bias (hi -ℤ lo +ℤ pos 1) + bias lo ≡ bias hi + 2 ^ 40 + 1
  reach =
      let minus = bias_minus hi lo (omega arith) (omega arith) in
      let size = mag-add hi (neg_ℤ lo) in
      omega (arith, minus, bias_add (hi -ℤ lo) (pos 1) (omega (arith, size, mag-negℤ lo)) (omega arith))

  count_by : (t : Bool) → ltb (bias hi) (bias lo) ≡ t → (k : ℕ) → k < cond t 0 (nat_abs (hi -ℤ lo +ℤ pos 1)) → bias lo + k ≤ bias hi
  count_by true e k h = absurd (omega arith)
  count_by false e k h =
      let order = ltb-false (bias hi) (bias lo) e in
      omega (arith, reach, (up-bias (hi -ℤ lo +ℤ pos 1) (omega (arith, reach))).1)

  -- every offset that is counted is at most hi
  pub counted : (k : ℕ) → k < span_count lo hi → bias lo + k ≤ bias hi
  unfolding span_count
  counted k h = count_by (lt_z hi lo) (sym (lt_z-bias hi lo (omega arith) (omega arith))) k h

-- whole pixels from −4,096 to 4,095, in eighths
pub eight_fits : (z : ℤ) → 2 ^ 40 ≤ bias z + 4096 → bias z ≤ 2 ^ 40 + 4095 → SFits w16 (pos 8 *ℤ z)
eight_fits (pos n) lo hi = record { sfits = omega arith }
eight_fits (negsuc n) lo hi = record { sfits = omega (arith, mag-neg (8 * suc n) {a = 8 * suc n - 1} (omega arith)) }

module _ (lo : ℤ) (k : ℕ) (f : SFits w16 lo) (s : Spanned lo k) where
  least : 2 ^ 40 ≤ bias lo + 4096
  least =
      let e = sym (le_z-bias (neg_ℤ (pos 4096)) lo (omega arith) (word_small f)) ∙ s.least in
      omega (arith, leb-true (bias (neg_ℤ (pos 4096))) (bias lo) e)

  pub moved : bias (lo +ℤ pos k) ≡ bias lo + k
  moved = omega (arith, bias_add lo (pos k) (word_small f) (omega (arith, s.few)))

  sum_small : Small (lo +ℤ pos k)
  sum_small = omega (arith, mag-add lo (pos k), f.sfits, s.few)

  most : bias (lo +ℤ pos k) ≤ 2 ^ 40 + 4095
  most =
      let e = sym (le_z-bias (lo +ℤ pos k) (pos 4095) sum_small (omega arith)) ∙ s.most in
      omega (arith, leb-true (bias (lo +ℤ pos k)) (bias (pos 4095)) e)

  pub span_fits : SFits w16 (pos 8 *ℤ (lo +ℤ pos k))
  span_fits = eight_fits (lo +ℤ pos k) (omega (arith, least, moved)) most

-- the window of a refinement
module _ (min max stored : ℤ) (s : ℕ) (fn : SFits w16 min) (fx : SFits w16 max) (fs : SFits w16 stored) where
  size_by : (z : ℤ) → (2 ^ 40 ≤ bias z + 4096) × (bias z ≤ 2 ^ 40 + 4095) → mag z ≤ 4096
  size_by z h = small_by z 4096 h.0 (omega (arith, h.1)) (omega arith)

  m-size : mag (quot_z (shr_z stored (2 ^ s)) (pos 8)) ≤ 4096
  m-size = size_by (quot_z (shr_z stored (2 ^ s)) (pos 8)) (eighth_bounds (shr_z stored (2 ^ s)) (shr_fits fs (2 ^ s)))

  pub first-size : mag (quot_z (shr_z stored (2 ^ s)) (pos 8) -ℤ pos 1) ≤ 4098
  first-size = omega (arith, mag-add (quot_z (shr_z stored (2 ^ s)) (pos 8)) (negsuc 0), m-size)

  pub last-size : mag (quot_z (shr_z stored (2 ^ s)) (pos 8) +ℤ pos 2) ≤ 4099
  last-size = omega (arith, mag-add (quot_z (shr_z stored (2 ^ s)) (pos 8)) (pos 2), m-size)

  pub lo_size : mag (larger (quot_z (shr_z stored (2 ^ s)) (pos 8) -ℤ pos 1) (quot_z min (pos 8))) ≤ 8192
  lo_size = larger-is (λ z. mag z ≤ 8192) _ _ (omega (arith, first-size)) (omega (arith, size_by (quot_z min (pos 8)) (eighth_bounds min fn)))

  pub hi_size : mag (smaller (quot_z (shr_z stored (2 ^ s)) (pos 8) +ℤ pos 2) (quot_z max (pos 8))) ≤ 8192
  hi_size = smaller-is (λ z. mag z ≤ 8192) _ _ (omega (arith, last-size)) (omega (arith, size_by (quot_z max (pos 8)) (eighth_bounds max fx)))

  pub lo_fits : SFits w16 (refine_span min max stored s).lo
  unfolding refine_span
  lo_fits = record { sfits = omega (arith, lo_size) }

  -- every offset that is tried lies from min/8 to max/8
  pub between : (k : ℕ) → k < (refine_span min max stored s).count → (bias (quot_z min (pos 8)) ≤ bias (refine_span min max stored s).lo) × (bias (refine_span min max stored s).lo + k ≤ bias (quot_z max (pos 8)))
  unfolding refine_span
  between k h =
      let q = quot_z (shr_z stored (2 ^ s)) (pos 8) in
      let lo = larger (q -ℤ pos 1) (quot_z min (pos 8)) in
      let hi = smaller (q +ℤ pos 2) (quot_z max (pos 8)) in
      let qn = size_by (quot_z min (pos 8)) (eighth_bounds min fn) in
      let qx = size_by (quot_z max (pos 8)) (eighth_bounds max fx) in
      let down = smaller-below (q +ℤ pos 2) (quot_z max (pos 8)) (omega (arith, last-size)) (omega arith) in
      let inside = counted lo hi lo_size hi_size k h in
      (larger-above (q -ℤ pos 1) (quot_z min (pos 8)) (omega (arith, first-size)) (omega arith), omega arith)

  pub refine-spanned : (k : ℕ) → k < (refine_span min max stored s).count → Spanned (refine_span min max stored s).lo k
  refine-spanned k h =
      let lo = (refine_span min max stored s).lo in
      let low = (eighth_bounds min fn).0 in
      let high = (eighth_bounds max fx).1 in
      let ends = between k h in
      let few : k ≤ 8192 = omega arith in
      let sum = bias_add lo (pos k) (word_small lo_fits) (omega arith) in
      let small : Small (lo +ℤ pos k) = omega (arith, mag-add lo (pos k), lo_fits.sfits) in
      record {
        least = le_z-bias (neg_ℤ (pos 4096)) lo (omega arith) (word_small lo_fits) ∙ le-leb (bias (neg_ℤ (pos 4096))) (bias lo) (omega arith);
        most = le_z-bias (lo +ℤ pos k) (pos 4095) small (omega arith) ∙ le-leb (bias (lo +ℤ pos k)) (bias (pos 4095)) (omega arith);
        few = few;
      }
