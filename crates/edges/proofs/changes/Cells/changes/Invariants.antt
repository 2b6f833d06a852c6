use Rattle.std.proofs.Common.{◌≤◌, ◌*◌}
use Rattle.edges.proofs.changes.Cells.changes.Given as goal

-- a cell adds at most 3 to a count
abbrev pub invariant-loop-i : goal.invariant-loop-i
invariant-loop-i l = (l.changes.written ≤ 3 * l.i) × (l.changes.past ≤ 3 * l.i)
