use Rattle.std.proofs.Common.{◌≡◌, ◌+◌, ◌*◌, ◌≤◌}
use Rattle.text.specs.Put.{Puts}
use Rattle.listing.specs.Parts.{line_room}
use Rattle.listing.specs.Cells.{record_cells}
use Rattle.report.specs.Steps.{step_bytes, step_report}
use Rattle.report.proofs.steps.Report.step.Given as goal

abbrev pub invariant-loop-i : goal.invariant-loop-i
invariant-loop-i l =
    let r = l.initial.self in
    let fs = record_cells l.first l.i in
    let gs = record_cells l.second l.i in
    record {
      within : l.w.at ≤ l.initial.w.at + line_room * l.i;
      so_far : l.self ≡ step_report r fs gs;
      put : Puts (step_bytes r fs gs) l.initial.w l.w;
    }
