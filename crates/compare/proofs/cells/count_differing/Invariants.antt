use Rattle.std.proofs.Common.{◌≡◌, ◌+◌, ◌≤◌, length}
use Rattle.grid.specs.Lent.{lent}
use Rattle.compare.specs.Differ.{differing}
use Rattle.compare.proofs.cells.count_differing.Given as goal

abbrev pub invariant-loop-i : goal.invariant-loop-i
invariant-loop-i l =
    let f = lent l.first in
    let g = lent l.second in
    (l.count ≤ l.i) × (l.count + length (differing f g l.i l.to) ≡ length (differing f g l.from l.to))
