use Rattle.std.proofs.Common.{◌-◌, ◌≤◌}
use Rattle.listing.specs.Steps.{Open}
use Rattle.show_grid.proofs.lines.Pass.show_cells.Given as goal

abbrev pub invariant-loop-self : goal.invariant-loop-self
invariant-loop-self l =
    (l.self.listing.next ≤ l.cells) × Open l.self.listing (l.cells - l.self.listing.next)

abbrev pub decreases-loop-self : goal.decreases-loop-self
decreases-loop-self l = l.cells - l.self.listing.next
