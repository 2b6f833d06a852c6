-- `predict::threshold::round24` meets its contract: a rounded number is at most a unit above the number, and fits.
use Rattle.std.proofs.Common.{◌≡◌, ◌*◌, arith}
use Rattle.predict.specs.Threshold.{round24}
use Rattle.predict.proofs.RoundLaws.{round_most}
use Rattle.predict.proofs.threshold.round24.Goals.{After-nearest}
use Rattle.predict.proofs.threshold.round24.Goals as goal

rounded : (c : After-nearest) → c.nearest.result * c.unit24-unit.result ≡ round24 c.args.n
unfolding round24
rounded c = cc

pub overflow_mul-result : goal.overflow_mul-result
overflow_mul-result c = record { fits = omega (arith, rounded c, round_most c.args.n, c.requires) }

pub returns : goal.returns
returns c = rounded (goal.at.returns c).After-nearest
