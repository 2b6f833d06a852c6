use Rattle.std.proofs.Common.{◌+◌, ◌*◌, ◌≤◌}
use Rattle.text.specs.Put.{Puts}
use Rattle.listing.specs.Parts.{line_room}
use Rattle.listing.specs.Cells.{record_cells}
use Rattle.listing.specs.Steps.{step_bytes}
use Rattle.listing.proofs.blocks.Listing.step.Given as goal

abbrev pub invariant-loop-i : goal.invariant-loop-i
invariant-loop-i l =
    record {
      within : l.w.at ≤ l.initial.w.at + line_room * l.i;
      put : Puts (step_bytes l.self (record_cells l.cells l.i)) l.initial.w l.w;
    }
