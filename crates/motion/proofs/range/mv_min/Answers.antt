-- `motion::range::mv_min` meets its contract: the distance below zero is clipped, turned and shifted.
use native.Mathlib.Omega.{arith}
use Rattle.std.proofs.lemmas.Int.{ints}
use Rattle.motion.proofs.RangeLaws.{min-is, clip-down}
use Rattle.motion.proofs.range.mv_min.Goals as goal

pub returns : goal.returns
returns c = rw (min-is, clip-down, ← c.clipped.ensures) (grind (arith, ints))
