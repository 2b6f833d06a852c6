use Rattle.std.proofs.Common.{◌≡◌}
use Rattle.motion.specs.Level.{level_of}
use Rattle.grid.specs.Lent.{lent_mut, previous_lent, SameBuffers}
use Rattle.estimate.specs.Lent.{inputs_lent}
use Rattle.estimate.specs.Block.{estimate_motion}
use Rattle.superblock.specs.Step.{worked}
use Rattle.superblock.proofs.step.estimate_sb_motion.Given as goal

-- the grid is that after the first k blocks
abbrev pub invariant-loop-k : goal.invariant-loop-k
invariant-loop-k l =
    record {
      estimated : lent_mut l.grid ≡ worked (estimate_motion (inputs_lent l.inputs) (previous_lent l.prev)) l.inputs.width l.inputs.height (level_of l.inputs.level).mv_size l.superblock l.k (lent_mut l.initial.grid);
      same : SameBuffers l.initial.grid l.grid;
    }
