use Rattle.std.proofs.Common.{length, ◌-◌, ◌≤◌}
use Rattle.replay.specs.Tally.{Within}
use Rattle.replay.proofs.lines.replayed.Given as goal

abbrev pub invariant-loop-rest : goal.invariant-loop-rest
invariant-loop-rest l = Within l.tally (length l.text - length l.rest) × (length l.rest ≤ length l.text)

abbrev pub decreases-loop-rest : goal.decreases-loop-rest
decreases-loop-rest l = length l.rest
