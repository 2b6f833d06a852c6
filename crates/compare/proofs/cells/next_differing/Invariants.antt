use Rattle.std.proofs.Common.{◌≡◌, ◌-◌}
use Rattle.std.specs.List.{range_with_len, find}
use Rattle.grid.specs.Lent.{lent}
use Rattle.compare.specs.Differ.{differs_at}
use Rattle.compare.proofs.cells.next_differing.Given as goal

abbrev pub invariant-loop-i : goal.invariant-loop-i
invariant-loop-i l =
    let test = differs_at (lent l.first) (lent l.second) in
    find test (range_with_len l.from (l.to - l.from)) ≡ find test (range_with_len l.i (l.to - l.i))
