-- `estimate::block::window_at` meets its contract: the block's first cell is one of the frame's.
use Rattle.std.proofs.Common.{rules, arith}
use Rattle.estimate.specs.Block.{window_at}
use Rattle.estimate.proofs.BlockFacts.{level-most, cell-held}
use Rattle.estimate.proofs.block.window_at.Goals as goal

pub block_of-block-requires-clause-small : goal.block_of-block-requires-clause-small
block_of-block-requires-clause-small c =
    let small = level-most c.args.level in
    rw c.level_of-row.ensures (omega arith)

pub first_stored-requires-clause-in_bounds : goal.first_stored-requires-clause-in_bounds
first_stored-requires-clause-in_bounds c =
    let starts = c.requires.starts in
    let held = c.requires.in_bounds in
    (cell-held starts.0 starts.1 held.0, cell-held starts.0 starts.1 held.1)

pub refine_window-requires : goal.refine_window-requires
refine_window-requires c = rw c.level_of-row.ensures (level-most c.args.level).0

pub returns : goal.returns
unfolding window_at
returns c = search rules
