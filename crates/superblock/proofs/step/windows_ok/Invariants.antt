use Rattle.std.proofs.Common.{◌≡◌, true}
use Rattle.ground.specs.Every.{all_below}
use Rattle.superblock.proofs.StepLaws.{passes}
use Rattle.superblock.proofs.step.windows_ok.Given as goal

-- no window of the first k is empty
abbrev pub invariant-loop-k : goal.invariant-loop-k
invariant-loop-k l = all_below l.k (passes l.inputs.width l.inputs.height l.inputs.level l.superblock l.grid.rows.now l.grid.cols.now) ≡ true
