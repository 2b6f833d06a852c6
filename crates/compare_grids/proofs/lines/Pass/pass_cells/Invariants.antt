use Rattle.std.proofs.Common.{◌-◌, ◌≤◌}
use Rattle.report.specs.Steps.{Open}
use Rattle.compare_grids.proofs.lines.Pass.pass_cells.Given as goal

abbrev pub invariant-loop-self : goal.invariant-loop-self
invariant-loop-self l =
    (l.self.report.next ≤ l.cells) × Open l.self.report (l.cells - l.self.report.next)

abbrev pub decreases-loop-self : goal.decreases-loop-self
decreases-loop-self l = l.cells - l.self.report.next
