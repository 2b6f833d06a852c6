-- `report::steps::Report::cell` meets its contract: a line where the two cells differ, else nothing. Assumes nothing.
use mathlib.Core.Path.{sym, ◌∙◌}
use Rattle.text.proofs.PutLaws.{puts_nothing}
use Rattle.report.proofs.StepLaws.{same_bytes, same-report, other-bytes, other-report}
use Rattle.report.proofs.steps.Report.cell.Goals.{then-not-same_cell, else-not-same_cell}
use Rattle.report.proofs.steps.Report.cell.Goals as goal

pub returns-clause-went_on : goal.returns-clause-went_on
returns-clause-went_on c =
    let a = c.args in
    elim c.if-not-same_cell.branch [
      | then-not-same_cell w ↦ rw w.self-is (sym (other-report a.self.now a.a a.b (sym c.same_cell.ensures ∙ w.if-not-same_cell.true)))
      | else-not-same_cell w ↦ rw w.self-is (sym (same-report a.self.now a.a a.b (sym c.same_cell.ensures ∙ w.if-not-same_cell.false)))
    ]

pub returns-clause-put : goal.returns-clause-put
returns-clause-put c =
    let a = c.args in
    elim c.if-not-same_cell.branch [
      | then-not-same_cell w ↦ rw (w.w-is, other-bytes a.self.now a.a a.b (sym c.same_cell.ensures ∙ w.if-not-same_cell.true)) w.put_cell_line.ensures.put
      | else-not-same_cell w ↦ rw (w.w-is, same_bytes a.self.now a.a a.b (sym c.same_cell.ensures ∙ w.if-not-same_cell.false)) (puts_nothing _)
    ]
