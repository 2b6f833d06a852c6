-- One axis of a block at a level: every length divides by 2 ^ s exactly, and how far from zero a range's ends lie. Assumes nothing.
use mathlib.Core.Path.{◌≡◌, refl, sym, ap, subst₂, ◌∙◌}
use mathlib.Core.Bool.{true}
use Prim.Native.Nat.{ℕ, zero, suc, ◌+◌, ◌-◌, ◌*◌, ◌/◌, ◌%◌, ◌^◌, ◌≤◌, ◌<◌, min}
use native.Mathlib.Nat.{add-mul, mul_assoc, mul-mod_right, le-mul_of_pos_right, le_of_mul-le-mul_right, lt_of_mul-lt-mul_right, add-div_right, div-eq_of_lt, div-mul-le_self, lt-div-mul-add}
use native.Mathlib.Omega.{arith}
use lib.IntN.{ℤ, pos, neg_ℤ}
use lib.Signed.{shr_z}
use lib.Pow.{pow_pos}
use Rattle.motion.specs.declared.level.Level.{Level}
use Rattle.motion.specs.Limits.{vector_limit, cell_side}
use Rattle.motion.specs.Frame.{Side, Starts, Sized, own4, own3, own2, refined3, refined2}
use Rattle.motion.specs.Range.{mv_min, mv_max, clip, within}
use Rattle.motion.specs.Block.{cropped_to}
use Rattle.motion.proofs.RangeLaws.{min-is, max_is, clip-up, clip-down, Between, between}

-- what the table's sizes have in common; the pads are exactly enough for 16 pixels and a block
pub record Fitting (l : Level) (size : ℕ) : Type 0 where
  pub shift : l.ssdec ≤ 2
  pub pads : 16 + size ≤ l.pad * 2 ^ l.ssdec
  pub pad : l.pad ≤ 48
  pub largest : size ≤ 64
  pub whole : size % 16 ≡ 0
  pub steps : (n : ℕ) → n % size ≡ 0 → n % 16 ≡ 0

pub fitting : {l : Level} {size : ℕ} → Sized l size → Fitting l size
fitting own4 = record { shift = omega arith; pads = omega arith; pad = omega arith; largest = omega arith; whole = refl; steps = λ n h. omega arith }
fitting own3 = record { shift = omega arith; pads = omega arith; pad = omega arith; largest = omega arith; whole = refl; steps = λ n h. omega arith }
fitting own2 = record { shift = omega arith; pads = omega arith; pad = omega arith; largest = omega arith; whole = refl; steps = λ n h. omega arith }
fitting refined3 = record { shift = omega arith; pads = omega arith; pad = omega arith; largest = omega arith; whole = refl; steps = λ n h. omega arith }
fitting refined2 = record { shift = omega arith; pads = omega arith; pad = omega arith; largest = omega arith; whole = refl; steps = λ n h. omega arith }

pub multiple : (m q n : ℕ) → n ≡ m * q → n % m ≡ 0
multiple m q n e = ap (λ (x : ℕ). x % m) e ∙ mul-mod_right m q

-- a multiple of 8 divides exactly by 1, 2 and 4
pub exact : (s n : ℕ) → s ≤ 2 → n % 8 ≡ 0 → n / 2 ^ s * 2 ^ s ≡ n
exact zero n h e = omega arith
exact (suc zero) n h e = omega arith
exact (suc (suc zero)) n h e = omega arith
exact (suc (suc (suc s))) n h e = absurd (omega arith)

-- a shift rounds down, so a distance below zero rounds up
pub shr_down : (n k : ℕ) → 0 < k → shr_z (neg_ℤ (pos n)) k ≡ neg_ℤ (pos ((n + (k - 1)) / k))
shr_down zero k h = ap pos (div-eq_of_lt h) ∙ ap (λ (n : ℕ). neg_ℤ (pos n)) (sym (div-eq_of_lt {m = k} (omega arith)))
shr_down (suc n) k h =
    let whole : suc n + (k - 1) ≡ n + k = omega arith in
    let more : suc (n / k) ≡ (suc n + (k - 1)) / k = omega (arith, ap (λ (m : ℕ). m / k) whole ∙ add-div_right n h) in
    ap (λ (m : ℕ). neg_ℤ (pos m)) more

-- the ends of a block's range on one axis at shift s
abbrev pub low_at : (side size b s : ℕ) → ℤ
low_at side size b s = shr_z (clip (mv_min b (cropped_to side size b))) (2 ^ s)

abbrev pub high_at : (side size b s : ℕ) → ℤ
high_at side size b s = shr_z (clip (mv_max (side / cell_side) b (cropped_to side size b))) (2 ^ s)

-- how far from zero they would be at shift 0 with no clip
abbrev below : (side size b : ℕ) → ℕ
below side size b = 32 * b + 128 + 8 * cropped_to side size b

abbrev above : (side b : ℕ) → ℕ
above side b = 32 * (side / cell_side - b) + 128

-- how far from zero they are, whether the clip bites or not
pub record Distances (side size b s : ℕ) : Type 0 where
  -- the low end is `down` below zero, the high end `up` above it
  pub down : ℕ
  pub up : ℕ
  pub low_is : low_at side size b s ≡ neg_ℤ (pos down)
  pub high_is : high_at side size b s ≡ pos up
  -- the shift rounds the clipped low end away from zero
  pub down-least : min (below side size b) vector_limit ≤ down * 2 ^ s
  pub down-most : down * 2 ^ s < min (below side size b) vector_limit + 2 ^ s
  -- and the clipped high end toward it
  pub up_least : min (above side b) vector_limit < up * 2 ^ s + 2 ^ s
  pub up-most : up * 2 ^ s ≤ min (above side b) vector_limit

pub distances : {side size b : ℕ} (s : ℕ) → Starts side size b → Distances side size b s
distances {side} {size} {b} s starts =
    let k = 2 ^ s in
    let c = cropped_to side size b in
    let m = min (below side size b) vector_limit in
    let n = min (above side b) vector_limit in
    let some = pow_pos s in
    let rounded = lt-div-mul-add {a = m + (k - 1)} some in
    record {
      down = (m + (k - 1)) / k;
      up = n / k;
      low_is = ap (λ (z : ℤ). shr_z z k) (ap clip (min-is b c) ∙ clip-down (below side size b)) ∙ shr_down m k some;
      high_is = ap (λ (z : ℤ). shr_z z k) (ap clip (max_is (side / cell_side) b c (omega (arith, starts.inside))) ∙ clip-up (above side b));
      down-least = omega arith;
      down-most = omega (arith, div-mul-le_self (m + (k - 1)) k);
      up_least = lt-div-mul-add some;
      up-most = div-mul-le_self n k;
    }

-- a multiple of 2 ^ s less than 2 ^ s beyond the vector limit is at most 16,384
back_by : (s n : ℕ) → s ≤ 2 → n * 2 ^ s < vector_limit + 2 ^ s → n * 2 ^ s ≤ suc vector_limit
back_by zero n h less = omega arith
back_by (suc zero) n h less = omega arith
back_by (suc (suc zero)) n h less = omega arith
back_by (suc (suc (suc s))) n h less = absurd (omega arith)

module _ {side size b s : ℕ} (r : Distances side size b s) where
  -- no end is beyond the clip
  pub down-clipped : r.down ≤ vector_limit
  down-clipped =
      let less : r.down < suc vector_limit = lt_of_mul-lt-mul_right (2 ^ s) (omega (arith, pow_pos s, r.down-most)) in
      omega arith

  pub up-clipped : r.up ≤ vector_limit
  up-clipped = omega (arith, le-mul_of_pos_right r.up (pow_pos s), r.up-most)

  -- shifted back, the low end is at most 16,384 below zero
  pub down-back : s ≤ 2 → r.down * 2 ^ s ≤ suc vector_limit
  down-back few = back_by s r.down few (omega (arith, r.down-most))

  -- what a component in range is
  pub in_range_by : (z : ℤ) → within (low_at side size b s) z (high_at side size b s) ≡ true → Between r.down r.up z
  in_range_by z h =
      between r.down r.up z (subst₂ (λ (low high : ℤ). within low z high ≡ true) r.low_is r.high_is h)

-- a block of the table, on one axis of a frame, measured at its shift
module _ {l : Level} {size side b : ℕ} (fit : Fitting l size) (frame : Side side) (starts : Starts side size b) where
  k_pos : 0 < 2 ^ l.ssdec
  k_pos = pow_pos l.ssdec

  start-whole : (cell_side * b) % 16 ≡ 0
  start-whole = fit.steps (cell_side * b) starts.aligned

  cells_whole : side % cell_side ≡ 0
  cells_whole = multiple cell_side (2 * (side / 8)) side (omega (arith, frame.whole))

  pub start-inside : cell_side * b < side
  start-inside = omega (arith, starts.inside)

  crop_whole : cropped_to side size b % 8 ≡ 0
  unfolding cropped_to
  crop_whole =
      multiple 8 (min (2 * (size / 16)) (side / 8 - 2 * (cell_side * b / 16))) (min size (side - cell_side * b))
      (omega (arith, start-whole, start-inside, frame.whole, fit.whole))

  pub crop_most : (cropped_to side size b ≤ size) × (cropped_to side size b + cell_side * b ≤ side)
  unfolding cropped_to
  crop_most = omega (arith, start-inside)

  -- each length, times 2 ^ s, is the full-size one
  start-exact : cell_side * b / 2 ^ l.ssdec * 2 ^ l.ssdec ≡ cell_side * b
  start-exact =
      exact l.ssdec (cell_side * b) fit.shift (multiple 8 (2 * (cell_side * b / 16)) (cell_side * b) (omega (arith, start-whole)))

  side_exact : side / 2 ^ l.ssdec * 2 ^ l.ssdec ≡ side
  side_exact = exact l.ssdec side fit.shift frame.whole

  crop_exact : cropped_to side size b / 2 ^ l.ssdec * 2 ^ l.ssdec ≡ cropped_to side size b
  crop_exact = exact l.ssdec (cropped_to side size b) fit.shift crop_whole

  rim_exact : 16 / 2 ^ l.ssdec * 2 ^ l.ssdec ≡ 16
  rim_exact = exact l.ssdec 16 fit.shift refl

  -- 16 pixels and the block are no longer than the pad
  pub room : 16 / 2 ^ l.ssdec + cropped_to side size b / 2 ^ l.ssdec ≤ l.pad
  room =
      let k = 2 ^ l.ssdec in
      let c = cropped_to side size b in
      le_of_mul-le-mul_right {k = k} (omega (arith, add-mul (16 / k) (c / k) k, rim_exact, crop_exact, fit.pads, crop_most.0)) k_pos

  -- the block is inside the frame at its shift too
  pub inside : cell_side * b / 2 ^ l.ssdec + cropped_to side size b / 2 ^ l.ssdec ≤ side / 2 ^ l.ssdec
  inside =
      let k = 2 ^ l.ssdec in
      let c = cropped_to side size b in
      le_of_mul-le-mul_right {k = k} (omega (arith, add-mul (cell_side * b / k) (c / k) k, start-exact, crop_exact, side_exact, crop_most.1)) k_pos

  -- no end is farther out than with no clip, where it is eight times whole pixels
  pub down-whole : (r : Distances side size b l.ssdec) → r.down ≤ 8 * (cell_side * b / 2 ^ l.ssdec + 16 / 2 ^ l.ssdec + cropped_to side size b / 2 ^ l.ssdec)
  down-whole r =
      let k = 2 ^ l.ssdec in
      let B = cell_side * b / k in
      let T = 16 / k in
      let C = cropped_to side size b / k in
      let less : r.down < 8 * (B + T + C) + 1 =
      lt_of_mul-lt-mul_right k (omega (arith, r.down-most, add-mul (8 * (B + T + C)) 1 k, mul_assoc 8 (B + T + C) k, add-mul (B + T) C k, add-mul B T k, start-exact, rim_exact, crop_exact)) in
      omega arith

  pub up-whole : (r : Distances side size b l.ssdec) → r.up ≤ 8 * (side / 2 ^ l.ssdec - cell_side * b / 2 ^ l.ssdec + 16 / 2 ^ l.ssdec)
  up-whole r =
      let k = 2 ^ l.ssdec in
      let B = cell_side * b / k in
      let S = side / k in
      let T = 16 / k in
      let whole : (S - B) + B ≡ S = omega (arith, inside) in
      let apart : (S - B) * k + B * k ≡ S * k = sym (add-mul (S - B) B k) ∙ ap (λ (m : ℕ). m * k) whole in
      le_of_mul-le-mul_right {k = k} (omega (arith, r.up-most, mul_assoc 8 (S - B + T) k, add-mul (S - B) T k, apart, start-exact, rim_exact, side_exact, cells_whole)) k_pos
