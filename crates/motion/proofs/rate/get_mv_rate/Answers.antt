-- `motion::rate::get_mv_rate` meets its contract: two rates of at most 32 fit.
use native.Mathlib.Omega.{arith}
use Rattle.std.proofs.lemmas.Int.{to_z-of_z}
use Rattle.motion.specs.Rate.{rate_v}
use Rattle.motion.proofs.RateLaws.{rate-le}
use Rattle.motion.proofs.rate.get_mv_rate.Goals as goal

pub overflow_add-result : goal.overflow_add-result
overflow_add-result c = omega (arith, rate-le, c.diff_to_rate.ensures, c.diff_to_rate-2.ensures)

pub returns : goal.returns
unfolding rate_v
returns c = grind (arith, to_z-of_z)
