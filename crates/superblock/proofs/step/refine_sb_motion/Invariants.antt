use Rattle.std.proofs.Common.{◌≡◌, ℕ}
use Rattle.motion.specs.Level.{level_of}
use Rattle.grid.specs.Grid.{Grid}
use Rattle.grid.specs.Lent.{lent_mut, SameBuffers}
use Rattle.estimate.specs.Lent.{inputs_lent}
use Rattle.estimate.specs.Block.{refine_motion}
use Rattle.superblock.specs.Step.{worked}
use Rattle.superblock.proofs.step.refine_sb_motion.Given as goal

-- the grid is that after the first k blocks
abbrev pub invariant-loop-k : goal.invariant-loop-k
invariant-loop-k l =
    record {
      refined : lent_mut l.grid ≡ worked (λ (bx by : ℕ) (g : Grid). refine_motion (inputs_lent l.inputs) bx by g.rows g.cols) l.inputs.width l.inputs.height (level_of l.inputs.level).refined l.superblock l.k (lent_mut l.initial.grid);
      same : SameBuffers l.initial.grid l.grid;
    }
