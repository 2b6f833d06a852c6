-- `estimate::block::first_stored` meets its contract.
use Rattle.std.proofs.Common.{rules}
use Rattle.estimate.specs.Block.{first_stored}
use Rattle.estimate.proofs.block.first_stored.Goals as goal

pub returns : goal.returns
unfolding first_stored
returns c = search rules
