-- Laws of rounding to 24 significant bits: how far from the number it ends. Assumes nothing.
use mathlib.Core.Path.{◌≡◌, refl, ap, ◌∙◌}
use mathlib.Core.Bool.{Bool, true, false, cond}
use mathlib.Core.Logic.{◌⊎◌, inl, inr}
use Prim.Native.Nat.{ℕ, zero, suc, ◌+◌, ◌-◌, ◌*◌, ◌/◌, ◌%◌, ◌^◌, ◌≤◌, ◌<◌}
use native.Mathlib.Nat.{le_trans, add-mul, mul-le-mul_right, mod-lt, div-add-mod', le-div_iff_mul-le, pow-suc}
use native.Mathlib.Omega.{arith}
use borrow.Author.Tests.{lt-ltb, le-ltb}
use lib.Dec.{ltb}
use lib.Pow.{pow_pos, pow-add}
use Rattle.motion.specs.Rate.{bit_length_in}
use Rattle.motion.proofs.RateLaws.{length-least}
use Rattle.predict.specs.Threshold.{unit24, nearest, round24}

-- the nearest multiple, by twice the rest
module _ (unit n : ℕ) where
  pub nearest-below : 2 * (n % unit) < unit → nearest unit n ≡ n / unit
  unfolding nearest
  nearest-below h = rw (lt-ltb (2 * (n % unit)) unit h)

  pub nearest-above : unit < 2 * (n % unit) → nearest unit n ≡ n / unit + 1
  unfolding nearest
  nearest-above h = rw (le-ltb (2 * (n % unit)) unit (omega (arith, h)), lt-ltb unit (2 * (n % unit)) h)

  pub nearest-tie : unit ≡ 2 * (n % unit) → nearest unit n ≡ n / unit + n / unit % 2
  unfolding nearest
  nearest-tie h = rw (le-ltb (2 * (n % unit)) unit (omega (arith, h)), le-ltb unit (2 * (n % unit)) (omega (arith, h)))

-- it is the one below or the next
nearest-by : (below : ℕ) (s t : Bool) → let r = cond s below (cond t (below + 1) (below + below % 2)) in (below ≤ r) × (r ≤ below + 1)
nearest-by below true t = (omega arith, omega arith)
nearest-by below false true = (omega arith, omega arith)
nearest-by below false false = (omega arith, omega arith)

pub nearest-two : (unit n : ℕ) → (n / unit ≤ nearest unit n) × (nearest unit n ≤ n / unit + 1)
unfolding nearest
nearest-two unit n = nearest-by (n / unit) (ltb (2 * (n % unit)) unit) (ltb unit (2 * (n % unit)))

-- a unit is 1, or one of a number of more than 24 bits
length_some : (n : ℕ) → 0 < bit_length_in 64 n → 0 < n
unfolding bit_length_in
length_some zero h = absurd (omega arith)
length_some (suc n) h = omega arith

unit_by : (n e : ℕ) → bit_length_in 64 n - 24 ≡ e → (2 ^ e ≡ 1) ⊎ ((2 ≤ 2 ^ e) × (2 ^ 23 * 2 ^ e ≤ n))
unit_by n zero h = inl refl
unit_by n (suc e) h =
    let long : bit_length_in 64 n ≡ 24 + suc e = omega (arith, h) in
    let least = length-least 64 n (length_some n (omega (arith, long))) in
    inr (omega (arith, pow-suc 2 e, pow_pos e), omega (arith, least, ap (λ (k : ℕ). 2 ^ k) long, pow-add 2 24 (suc e)))

pub unit_cases : (n : ℕ) → (unit24 n ≡ 1) ⊎ ((2 ≤ unit24 n) × (2 ^ 23 * unit24 n ≤ n))
unfolding unit24
unit_cases n = unit_by n (bit_length_in 64 n - 24) refl

unit_some : (n : ℕ) → 0 < unit24 n
unfolding unit24
unit_some n = pow_pos (bit_length_in 64 n - 24)

-- the multiples of a unit below a number and above it
module _ (unit n : ℕ) (some : 0 < unit) where
  pub down-most : n / unit * unit ≤ n
  down-most = omega (arith, div-add-mod' n unit)

  pub up_least : n < n / unit * unit + unit
  up_least = omega (arith, div-add-mod' n unit, mod-lt n some)

  pub units_least : n / unit * unit ≤ nearest unit n * unit
  units_least = mul-le-mul_right unit (nearest-two unit n).0

  pub units_most : nearest unit n * unit ≤ n / unit * unit + unit
  units_most = omega (arith, mul-le-mul_right unit (nearest-two unit n).1, add-mul (n / unit) 1 unit)

module _ (n : ℕ) where
  -- a multiple of the unit that is not above the number is not above the rounded one
  pub round_least : (k : ℕ) → k * unit24 n ≤ n → k * unit24 n ≤ round24 n
  unfolding round24
  round_least k h =
      mul-le-mul_right (unit24 n) (le_trans ((le-div_iff_mul-le (unit_some n)).1 h) (nearest-two (unit24 n) n).0)

  pub round_most : round24 n ≤ n + unit24 n
  unfolding round24
  round_most = omega (arith, units_most (unit24 n) n (unit_some n), down-most (unit24 n) n (unit_some n))

  round_above : n < round24 n + unit24 n
  unfolding round24
  round_above = omega (arith, units_least (unit24 n) n (unit_some n), up_least (unit24 n) n (unit_some n))

  one-exact : nearest 1 n * 1 ≡ n
  one-exact =
      let none : 2 * (n % 1) < 1 = omega (arith, mod-lt n {m = 1} (omega arith)) in
      omega (arith, nearest-below 1 n none, div-add-mod' n 1, none)

  exact : unit24 n ≡ 1 → round24 n ≡ n
  unfolding round24
  exact e = ap (λ (unit : ℕ). nearest unit n * unit) e ∙ one-exact

  -- rounding moves a number by at most a part in 2 ^ 23
  near_by : (unit24 n ≡ 1) ⊎ ((2 ≤ unit24 n) × (2 ^ 23 * unit24 n ≤ n)) → (2 ^ 23 * n ≤ 2 ^ 23 * round24 n + n) × (2 ^ 23 * round24 n ≤ 2 ^ 23 * n + n)
  near_by (inl one) = (omega (arith, exact one), omega (arith, exact one))
  near_by (inr more) = (omega (arith, more.1, round_above), omega (arith, more.1, round_most))

  pub round_near : (2 ^ 23 * n ≤ 2 ^ 23 * round24 n + n) × (2 ^ 23 * round24 n ≤ 2 ^ 23 * n + n)
  round_near = near_by (unit_cases n)

  -- and one of at most 24 bits not at all
  small_by : n < 2 ^ 24 → (unit24 n ≡ 1) ⊎ ((2 ≤ unit24 n) × (2 ^ 23 * unit24 n ≤ n)) → round24 n ≡ n
  small_by h (inl one) = exact one
  small_by h (inr more) = absurd (omega (arith, more.0, more.1))

  pub round_small : n < 2 ^ 24 → round24 n ≡ n
  round_small h = small_by h (unit_cases n)
