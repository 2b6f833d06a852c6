use Rattle.std.proofs.Common.{◌<◌}
use Rattle.replay.proofs.grids.Grid.sum.Given as goal

abbrev pub invariant-loop-i : goal.invariant-loop-i
invariant-loop-i l = l.sum < 2147483647
