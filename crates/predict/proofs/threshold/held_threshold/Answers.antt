-- `predict::threshold::held_threshold` meets its contract: rounding moves a number by a part in 2 ^ 23 at the most.
use mathlib.Core.Path.{◌≡◌}
use Prim.Native.Nat.{ℕ, ◌+◌, ◌-◌, ◌/◌, ◌^◌, ◌≤◌}
use native.Mathlib.Omega.{arith}
use Rattle.predict.specs.Threshold.{round24, held_threshold}
use Rattle.predict.proofs.RoundLaws.{round_near}
use Rattle.predict.proofs.threshold.held_threshold.Goals.{After-round24-product, After-round24-rounded}
use Rattle.predict.proofs.threshold.held_threshold.Goals as goal

first : (c : After-round24-product) → c.round24-product.result ≤ 2 ^ 30 + 2 ^ 7
first c = omega (arith, c.round24-product.ensures, (round_near c.from.result).1, c.from.ensures, c.requires.0)

-- six fifths of 2 ^ 30, and a little
small : (r n : ℕ) → r ≡ round24 n → n ≤ 2 ^ 54 - 2 ^ 31 → r / 2 ^ 23 ≤ 2 ^ 31
small r n e h = omega (arith, e, h, (round_near n).1)

second : (c : After-round24-rounded) → c.round24-rounded.result / 2 ^ 23 ≤ 2 ^ 31
second c = small _ _ c.round24-rounded.ensures (omega (arith, first (goal.at.After-round24-rounded c).After-round24-product))

pub overflow_mul-product : goal.overflow_mul-product
overflow_mul-product c = omega (arith, first c)

pub round24-rounded-requires : goal.round24-rounded-requires
round24-rounded-requires c = omega (arith, first c)

pub overflow_cast-result : goal.overflow_cast-result
overflow_cast-result c = omega (arith, first (goal.at.overflow_cast-result c).After-round24-product, second c)

pub overflow_add-result : goal.overflow_add-result
overflow_add-result c = omega (arith, first (goal.at.overflow_add-result c).After-round24-product, second c, c.requires.1)

pub returns : goal.returns
unfolding held_threshold
returns c = cc
