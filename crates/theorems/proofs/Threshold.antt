-- The stop threshold and the one that the Rust holds. Assumes nothing.
use mathlib.Core.Path.{◌≡◌, refl, sym, ap, ◌∙◌}
use mathlib.Core.Bool.{Bool, true, false}
use mathlib.Core.Logic.{◌⊎◌, inl, inr}
use Prim.Native.Nat.{ℕ, ◌+◌, ◌-◌, ◌*◌, ◌/◌, ◌^◌, ◌≤◌, ◌<◌}
use native.Mathlib.Nat.{mul_assoc, mul-le-mul}
use native.Mathlib.Omega.{arith}
use borrow.Author.Tests.{ltb-true, ltb-false, lt-ltb}
use lib.Dec.{ltb}
use lib.Pow.{pow-add, pow_mono}
use Rattle.motion.specs.Rate.{bit_length_in}
use Rattle.motion.specs.Level.{level_of}
use Rattle.motion.specs.Block.{cropped_to, block_of}
use Rattle.predict.specs.Predictors.{stop_threshold}
use Rattle.predict.specs.Threshold.{unit24, nearest, round24, held_threshold}
use Rattle.predict.proofs.RoundLaws.{unit_cases, round_least, round_most, round_near, round_small}
use Rattle.theorems.specs.Threshold.{block4, SameAnswer, Thresholds}

-- a unit below 2 ^ 21 is at most 2 ^ 20
few-by : (e : ℕ) (t : Bool) → ltb e 21 ≡ t → 2 ^ e < 2 ^ 21 → e ≤ 20
few-by e true h less = omega (arith, ltb-true e 21 h)
few-by e false h less = absurd (omega (arith, less, pow_mono {i = 21} {j = e} (ltb-false e 21 h)))

below_by : (n : ℕ) → n < 2 ^ 44 → (unit24 n ≡ 1) ⊎ ((2 ≤ unit24 n) × (2 ^ 23 * unit24 n ≤ n)) → unit24 n < 2 ^ 21
below_by n h (inl one) = omega (arith, one)
below_by n h (inr more) = omega (arith, h, more.1)

module _ (n : ℕ) (h : n < 2 ^ 44) where
  past-few : bit_length_in 64 n - 24 ≤ 20
  unfolding unit24
  past-few = few-by (bit_length_in 64 n - 24) (ltb (bit_length_in 64 n - 24) 21) refl (below_by n h (unit_cases n))

  unit_few : unit24 n ≤ 2 ^ 20
  unfolding unit24
  unit_few = pow_mono past-few

  -- and 2 ^ 23 is a multiple of it
  multiple : (k : ℕ) → k * 2 ^ (23 - (bit_length_in 64 n - 24)) * unit24 n ≡ k * 2 ^ 23
  unfolding unit24
  multiple k =
      let past = bit_length_in 64 n - 24 in
      let split : (23 - past) + past ≡ 23 = omega (arith, past-few) in
      mul_assoc k (2 ^ (23 - past)) (2 ^ past) ∙ ap (λ (m : ℕ). k * m) (sym (pow-add 2 (23 - past) past) ∙ ap (λ (m : ℕ). 2 ^ m) split)

-- of a minimum SAD below 2 ^ 20 both are the same
fifths_small : (m : ℕ) → m < 2 ^ 20 → round24 (m * 10066330) / 8388608 ≡ m * 6 / 5
fifths_small m h =
    let n = m * 10066330 in
    let few : n < 2 ^ 44 = omega (arith, h) in
    let q = m * 6 / 5 in
    let k = q * 2 ^ (23 - (bit_length_in 64 n - 24)) in
    let least = round_least n k (omega (arith, multiple n few q)) in
    omega (arith, h, least, multiple n few q, round_most n, unit_few n few)

fifths_same : (m : ℕ) → m < 2 ^ 20 → round24 (round24 m * 10066330) / 8388608 ≡ m * 6 / 5
fifths_same m h =
    ap (λ (n : ℕ). round24 (n * 10066330) / 8388608) (round_small m (omega (arith, h))) ∙ fifths_small m h

-- of any other both are above all SADs
fifths_large : (m : ℕ) → 2 ^ 20 ≤ m → 2 ^ 20 ≤ round24 (round24 m * 10066330) / 8388608
fifths_large m h = omega (arith, h, (round_near m).0, (round_near (round24 m * 10066330)).0)

area4 : (width height bx by : ℕ) → (block4 width height bx by).w * (block4 width height bx by).h ≤ 256
unfolding block_of level_of cropped_to
area4 width height bx by =
    let wide : cropped_to width 64 bx / 2 ^ 2 ≤ 16 = omega arith in
    let high : cropped_to height 64 by / 2 ^ 2 ≤ 16 = omega arith in
    mul-le-mul wide high

same_by : (min_sad sad area : ℕ) (t : Bool) → ltb min_sad (2 ^ 20) ≡ t → sad < 2 ^ 20 → ltb sad (held_threshold min_sad area) ≡ ltb sad (stop_threshold min_sad area)
unfolding held_threshold stop_threshold
same_by min_sad sad area true e h = ap (λ (n : ℕ). ltb sad (n + area)) (fifths_same min_sad (ltb-true min_sad (2 ^ 20) e))
same_by min_sad sad area false e h =
    let large = ltb-false min_sad (2 ^ 20) e in
    lt-ltb sad (round24 (round24 min_sad * 10066330) / 8388608 + area) (omega (arith, h, fifths_large min_sad large))
    ∙ sym (lt-ltb sad (min_sad * 6 / 5 + area) (omega (arith, h, large)))

same_answer : (largest : ℕ) → largest ≤ 4095 → SameAnswer largest
same_answer largest few width height bx by min_sad sad h =
    same_by min_sad sad _ (ltb min_sad (2 ^ 20)) refl (omega (arith, h, mul-le-mul few (area4 width height bx by)))

pub thresholds : Thresholds
unfolding held_threshold stop_threshold round24 unit24 nearest bit_length_in
thresholds =
    record {
      of-bytes = same_answer 255 (omega arith);
      of-samples = λ largest few. same_answer largest (omega (arith, few));
      of_none = (refl, refl);
      first = (refl, refl);
    }
