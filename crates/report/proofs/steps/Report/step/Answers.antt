-- `report::steps::Report::step` meets its contract: after a turn the cells up to the next are reported. Assumes nothing.
use mathlib.Core.Path.{◌≡◌, ◌∙◌}
use native.Mathlib.Omega.{arith}
use Rattle.text.proofs.PutLaws.{puts_nothing, puts_as, puts_behind}
use Rattle.listing.specs.Cells.{cells_from, record_at}
use Rattle.report.specs.Steps.{Passed, step_lines}
use Rattle.report.proofs.StepLaws.{no_report, passed_so_far, more_report, more_bytes}
use Rattle.report.proofs.steps.Report.step.Goals.{At-loop-i}
use Rattle.report.proofs.steps.Report.step.Goals as goal

-- the cells up to the next have gone by
passed : (c : At-loop-i) → Passed c.args.self.now c.loop-i.i c.loop-i.self
passed c =
    passed_so_far (record_at c.args.first.now) (record_at c.args.second.now) c.args.self.now c.loop-i.i c.loop-i.invariant.so_far c.requires.open_and_room.0.counted

pub loop-i-init : goal.loop-i-init
unfolding step_lines cells_from
loop-i-init c =
    let a = c.args in
    record {
      within = omega arith;
      so_far = no_report (record_at a.first.now) (record_at a.second.now) a.self.now;
      put = puts_nothing _;
    }

pub cell-requires : goal.cell-requires
cell-requires c =
    let start = c.requires.open_and_room.0 in
    let past = passed (goal.at.cell-requires c).At-loop-i in (
      record {
        some = omega (arith, start.some, past.across);
        wide = omega (arith, start.wide, past.across);
        cells = omega (arith, start.cells, past.next, c.loop-i-test.true);
        counted = past.counted;
      },
      omega arith,
    )

pub loop-i-preserved : goal.loop-i-preserved
unfolding record_at
loop-i-preserved c =
    let so_far = c.loop-i.invariant.so_far in
    let first = record_at c.args.first.now in
    let second = record_at c.args.second.now in
    let r = c.args.self.now in
    let i = c.loop-i.i in
    let a = c.get_cell-a.ensures in
    let b = c.get_cell-b.ensures in
    record {
      within = omega (arith, c.loop-i.invariant.within, c.cell.ensures.upper_bound);
      so_far = c.cell.ensures.went_on ∙ more_report first second r i so_far a b;
      put = puts_as (more_bytes first second r i so_far a b) (puts_behind c.loop-i.invariant.put c.cell.ensures.put);
    }

pub returns-clause-passed : goal.returns-clause-passed
returns-clause-passed c =
    let all : c.loop-i.i ≡ c.args.count = omega arith in
    let past = passed (goal.at.returns-clause-passed c).At-loop-i in
    record { across = past.across; next = omega (arith, past.next); counted = past.counted }
