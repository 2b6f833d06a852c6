use Rattle.std.proofs.Common.{◌≡◌, take}
use Rattle.grid.specs.Lent.{lent_mut, previous_lent, SameBuffers}
use Rattle.estimate.specs.Lent.{inputs_lent}
use Rattle.frame.specs.Run.{level_run}
use Rattle.frame.proofs.run.level_run.Given as goal

-- the grid is that after the superblocks of the list so far
abbrev pub invariant-loop-superblock : goal.invariant-loop-superblock
invariant-loop-superblock l =
    record {
      run : lent_mut l.grid ≡ level_run (inputs_lent l.inputs) (previous_lent l.prev) (take l.superblock-index l.list) (lent_mut l.initial.grid);
      same : SameBuffers l.initial.grid l.grid;
    }
