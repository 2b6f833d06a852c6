-- `frame::run::inputs_at` meets its contract.
use Rattle.estimate.specs.Inputs.{inputs_of}
use Rattle.frame.specs.Run.{inputs_at}
use Rattle.frame.proofs.run.inputs_at.Goals as goal

pub returns : goal.returns
unfolding inputs_at
returns c = λ j. inputs_of c.args.width c.args.height c.args.level (c.at.ensures j) (c.at-2.ensures j) c.args.weight
