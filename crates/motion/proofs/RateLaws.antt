-- Bit lengths and rates: against leading zeros, and their bounds. Assumes nothing.
use mathlib.Core.Path.{◌≡◌, refl, ap, ◌∙◌}
use Prim.Native.Nat.{ℕ, zero, suc, ◌+◌, ◌*◌, ◌/◌, ◌^◌, ◌≤◌, ◌<◌}
use native.Mathlib.Nat.{add-suc, add-zero, pow-suc}
use native.Mathlib.Omega.{arith}
use lib.Count.{count_leading_zeros}
use lib.IntN.{ℤ, nat_abs}
use lib.Signed.{shr_z}
use Rattle.motion.specs.declared.vector.MotionVector.{MotionVector}
use Rattle.motion.specs.Rate.{bit_length_in, bit_length, rate, rate_v}

-- of k digits, those that are no leading zeros
pub in_digits : (k n : ℕ) → count_leading_zeros k n + bit_length_in k n ≡ k
unfolding count_leading_zeros bit_length_in
in_digits zero n = refl
in_digits (suc k) zero = add-zero (suc k)
in_digits (suc k) (suc n) = add-suc (count_leading_zeros k (suc n / 2)) (bit_length_in k (suc n / 2)) ∙ ap suc (in_digits k (suc n / 2))

-- 2 to the bit length of a number but 0 is at most twice the number
pub length-least : (k n : ℕ) → 0 < n → 2 ^ bit_length_in k n ≤ 2 * n
unfolding bit_length_in
length-least zero n h = omega arith
length-least (suc k) zero h = absurd (omega arith)
length-least (suc zero) (suc n) h = omega arith
length-least (suc (suc k)) (suc zero) h = omega arith
length-least (suc (suc k)) (suc (suc n)) h =
    let half = length-least (suc k) (suc (suc n) / 2) (omega arith) in
    omega (arith, half, pow-suc 2 (bit_length_in (suc k) (suc (suc n) / 2)))

pub zeros_and_length : (n : ℕ) → count_leading_zeros 16 n + bit_length n ≡ 16
unfolding bit_length
zeros_and_length n = in_digits 16 n

-- a rate is at most 32 a component
pub rate-le : (z : ℤ) → rate z ≤ 32
unfolding rate
rate-le z = omega (arith, zeros_and_length (nat_abs (shr_z z 2)))

pub rate_v-le : (v : MotionVector) → rate_v v ≤ 64
unfolding rate_v
rate_v-le v = omega (arith, rate-le v.row, rate-le v.col)
