-- The stop threshold, as request Five will have it.
use Rattle.std.specs.Prelude.{ℕ, ◌+◌, ◌-◌, ◌*◌, ◌/◌, ◌%◌, ◌^◌, cond, ltb}
use Rattle.motion.specs.Rate.{bit_length_in}

-- what the last of a number's 24 significant bits counts: 1 where it has no more than 24
unfoldable pub unit24 : ℕ → ℕ
unit24 n = 2 ^ (bit_length_in 64 n - 24)

-- how many units are nearest to a number, of two equally near the even one
unfoldable pub nearest : (unit n : ℕ) → ℕ
nearest unit n =
    let below = n / unit in
    let rest = 2 * (n % unit) in
    cond (ltb rest unit) below (cond (ltb unit rest) (below + 1) (below + below % 2))

-- a number of 64 bits rounded to 24 significant bits
unfoldable pub round24 : ℕ → ℕ
round24 n = nearest (unit24 n) n * unit24 n

-- the minimum SAD is rounded to 24 significant bits, multiplied by 10,066,330, the product rounded the same way, divided by
-- 8,388,608 and its fraction dropped; then w·h is added
unfoldable pub held_threshold : ℕ → ℕ → ℕ
held_threshold min_sad area = round24 (round24 min_sad * 10066330) / 8388608 + area
