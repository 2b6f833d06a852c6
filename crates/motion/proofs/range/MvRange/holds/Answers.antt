-- `motion::range::MvRange::holds` meets its contract: both components are between their ends.
use native.Mathlib.Omega.{arith}
use Rattle.std.proofs.lemmas.Int.{to_z-of_z}
use Rattle.motion.specs.Range.{in_range}
use Rattle.motion.proofs.range.MvRange.holds.Goals as goal

pub returns-then-between : goal.returns-then-between
unfolding in_range
returns-then-between c = grind (arith, to_z-of_z)

pub returns-else-between : goal.returns-else-between
unfolding in_range
returns-else-between c = grind (arith, to_z-of_z)
