-- `<<` of a vector meets its contract: the bits shifted left are those of the multiple, which fits.
use native.Mathlib.Omega.{arith}
use Rattle.std.proofs.lemmas.Int.{ints}
use Rattle.ground.proofs.Words.{shl_word}
use Rattle.motion.specs.Vector.{shl_v}
use Rattle.motion.proofs.vector.MotionVectorShlU32.shl.Goals as goal

pub returns : goal.returns
unfolding shl_v
returns c = grind (arith, ints, shl_word)
