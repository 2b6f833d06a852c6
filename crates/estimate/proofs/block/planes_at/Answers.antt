-- `estimate::block::planes_at` meets its contract: the block lies in both planes.
use Rattle.estimate.specs.Block.{block_in}
use Rattle.estimate.proofs.BlockFacts.{ready, block_lies}
use Rattle.estimate.proofs.block.planes_at.Goals as goal

pub lend-requires : goal.lend-requires
lend-requires c =
    let lies = block_lies (ready c.args.inputs.now) c.requires.sized c.requires.starts.0 c.requires.starts.1 in
    rw (c.weighed.ensures, c.block_of-block.ensures, c.level_of-row.ensures) lies

pub returns-clause-block : goal.returns-clause-block
unfolding block_in
returns-clause-block c = rw (c.lend.ensures.lent.0, c.weighed.ensures, c.block_of-block.ensures, c.level_of-row.ensures)
