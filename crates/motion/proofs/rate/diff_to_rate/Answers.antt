-- `motion::rate::diff_to_rate` meets its contract: 16 less the leading zeros is the bit length.
use native.Mathlib.Omega.{arith}
use Rattle.std.proofs.lemmas.Int.{ints}
use Rattle.motion.specs.Rate.{rate}
use Rattle.motion.proofs.RateLaws.{zeros_and_length}
use Rattle.motion.proofs.rate.diff_to_rate.Goals as goal

pub returns : goal.returns
unfolding rate
returns c = grind (arith, ints, zeros_and_length c.unsigned_abs.result)
