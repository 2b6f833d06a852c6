-- `motion::range::mv_max` meets its contract: the distance above zero is clipped and shifted.
use native.Mathlib.Omega.{arith}
use Rattle.std.proofs.lemmas.Int.{ints}
use Rattle.motion.proofs.RangeLaws.{max_is, clip-up}
use Rattle.motion.proofs.range.mv_max.Goals as goal

pub returns : goal.returns
returns c size = rw (max_is c.args.in_b c.args.b size c.requires.0, clip-up, c.clipped.ensures) (grind (arith, ints))
