-- Rate is the sum over both components of twice the bit length of |component >> 1|.
use Rattle.std.specs.Prelude.{ℕ, zero, suc, ◌+◌, ◌*◌, ◌/◌, ℤ, nat_abs}
use Rattle.std.specs.Int.Signed.{shr_z}
use Rattle.motion.specs.declared.vector.MotionVector.{MotionVector}

-- bit length: 0 has none, any other number one more than its half; the first argument bounds how many are counted
unfoldable pub bit_length_in : ℕ → ℕ → ℕ
bit_length_in zero n = 0
bit_length_in (suc k) zero = 0
bit_length_in (suc k) (suc n) = suc (bit_length_in k (suc n / 2))

-- bit length of a 16-bit number
unfoldable pub bit_length : ℕ → ℕ
bit_length n = bit_length_in 16 n

unfoldable pub rate : ℤ → ℕ
rate z = 2 * bit_length (nat_abs (shr_z z 2))

unfoldable pub rate_v : MotionVector → ℕ
rate_v v = rate v.row + rate v.col
