-- `estimate::planes::FramePlanes::at` meets its contract.
use Rattle.std.proofs.Common.{arith}
use Rattle.std.proofs.lemmas.Bool.{ne_eqb}
use Rattle.estimate.specs.Inputs.{plane_at}
use Rattle.estimate.proofs.planes.FramePlanes.at.Goals as goal

pub returns-in-4 : goal.returns-in-4
unfolding plane_at
returns-in-4 c = rw c.in-4.is

pub returns-in-3 : goal.returns-in-3
unfolding plane_at
returns-in-3 c = rw c.in-3.is

pub returns-in_default : goal.returns-in_default
unfolding plane_at
returns-in_default c = rw (ne_eqb c.args.level 4 (omega arith), ne_eqb c.args.level 3 (omega arith))
