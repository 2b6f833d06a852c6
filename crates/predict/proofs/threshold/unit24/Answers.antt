-- `predict::threshold::unit24` meets its contract: 64 less the leading zeros is the bit length, and the power fits.
use Rattle.std.proofs.Common.{◌≡◌, ℕ, ◌-◌, ◌*◌, ◌%◌, ◌^◌, ◌≤◌, ap, ◌∙◌, arith}
use native.Mathlib.Nat.{one-mul}
use lib.Pow.{shl_exact, pow_pos, pow_mono}
use Rattle.motion.specs.Rate.{bit_length_in}
use Rattle.motion.proofs.RateLaws.{in_digits}
use Rattle.predict.specs.Threshold.{unit24}
use Rattle.predict.proofs.threshold.unit24.Goals.{After-saturating_sub}
use Rattle.predict.proofs.threshold.unit24.Goals as goal

past : (c : After-saturating_sub) → c.saturating_sub.result ≡ bit_length_in 64 c.args.n - 24
past c = omega (arith, in_digits 64 c.args.n, c.saturating_sub.ensures)

shifted : (past : ℕ) → past ≤ 40 → (1 * 2 ^ past) % 2 ^ 64 ≡ 2 ^ past
shifted past few = shl_exact {a = 1} 1 past 64 (omega arith) (omega (arith, few)) ∙ one-mul (2 ^ past)

unit : (c : After-saturating_sub) → (1 * 2 ^ c.saturating_sub.result) % 2 ^ 64 ≡ unit24 c.args.n
unfolding unit24
unit c = shifted c.saturating_sub.result (omega (arith, past c, in_digits 64 c.args.n)) ∙ ap (λ (k : ℕ). 2 ^ k) (past c)

pub returns-clause-unit : goal.returns-clause-unit
returns-clause-unit c = unit c

pub returns-clause-some : goal.returns-clause-some
unfolding unit24
returns-clause-some c = omega (arith, unit c, pow_pos (bit_length_in 64 c.args.n - 24))

pub returns-clause-most : goal.returns-clause-most
unfolding unit24
returns-clause-most c =
    omega (arith, unit c, pow_mono {i = bit_length_in 64 c.args.n - 24} {j = 40} (omega (arith, in_digits 64 c.args.n)))
