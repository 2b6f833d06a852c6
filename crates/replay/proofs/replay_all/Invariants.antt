use Rattle.std.proofs.Common.{◌*◌}
use Rattle.replay.specs.Tally.{Within}
use Rattle.replay.proofs.replay_all.Given as goal

-- each file has at most 65,536 lines
abbrev pub invariant-loop-which : goal.invariant-loop-which
invariant-loop-which l = Within l.all (l.which * 65536)
