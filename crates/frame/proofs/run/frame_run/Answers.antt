-- `frame::run::frame_run` meets its contract.
use Rattle.std.proofs.Common.{◌≡◌, refl, ap, ap₂, ◌∙◌}
use Rattle.grid.specs.Grid.{Grid}
use Rattle.grid.specs.Lent.{lent_mut, previous_lent}
use Rattle.refusal.specs.Refusals.{level_ok}
use Rattle.estimate.specs.Inputs.{Inputs, plane_at}
use Rattle.estimate.specs.Lent.{inputs_lent, planes_lent}
use Rattle.superblock.proofs.StepLaws.{same-more}
use Rattle.frame.specs.Run.{level_run, frame_run}
use Rattle.frame.proofs.RunLaws.{held-same, asked-there}
use Rattle.frame.proofs.PreviousLaws.{frame_run-same_previous}
use Rattle.frame.proofs.run.frame_run.Goals.{After-level_run-3}
use Rattle.frame.proofs.run.frame_run.Goals as goal

pub inputs_at-quarter-requires : goal.inputs_at-quarter-requires
unfolding level_ok plane_at
inputs_at-quarter-requires c =
    record { side = (c.requires.side.0, c.requires.side.1, refl); held = (c.requires.cur_held.2, c.requires.reference_held.2) }

pub inputs_at-half-requires : goal.inputs_at-half-requires
unfolding level_ok plane_at
inputs_at-half-requires c =
    record { side = (c.requires.side.0, c.requires.side.1, refl); held = (c.requires.cur_held.1, c.requires.reference_held.1) }

pub inputs_at-full-requires : goal.inputs_at-full-requires
unfolding level_ok plane_at
inputs_at-full-requires c =
    record { side = (c.requires.side.0, c.requires.side.1, refl); held = (c.requires.cur_held.0, c.requires.reference_held.0) }

pub level_run-requires : goal.level_run-requires
level_run-requires c =
    let asked = asked-there (inputs_lent c.inputs_at-quarter.result) _ _ _ _ c.args.list.now c.inputs_at-quarter.ensures c.requires.held_if c.requires.held c.requires.in_frame in
    record { held_if = asked.0; held = asked.1; in_frame = asked.2 }

pub level_run-requires-2 : goal.level_run-requires-2
level_run-requires-2 c =
    let held = held-same c.level_run.ensures.same c.requires.held in
    let asked = asked-there (inputs_lent c.inputs_at-half.result) _ _ _ _ c.args.list.now c.inputs_at-half.ensures c.requires.held_if held c.requires.in_frame in
    record { held_if = asked.0; held = asked.1; in_frame = asked.2 }

pub level_run-requires-3 : goal.level_run-requires-3
level_run-requires-3 c =
    let held = held-same (same-more c.level_run.ensures.same c.level_run-2.ensures.same) c.requires.held in
    let asked = asked-there (inputs_lent c.inputs_at-full.result) _ _ _ _ c.args.list.now c.inputs_at-full.ensures c.requires.held_if held c.requires.in_frame in
    record { held_if = asked.0; held = asked.1; in_frame = asked.2 }

-- the three levels make the run
made : (c : After-level_run-3) → lent_mut c.level_run-3.new.grid ≡ frame_run c.args.width c.args.height (planes_lent c.args.cur.now) (planes_lent c.args.reference.now) c.args.weight (previous_lent c.args.prev) c.args.list.now (lent_mut c.args.grid.now)
unfolding frame_run
made c =
    let run : Inputs → Grid → Grid = λ i g. level_run i (previous_lent c.args.prev) c.args.list.now g in
    let quarter = c.level_run.ensures.run ∙ ap (λ (i : Inputs). run i (lent_mut c.args.grid.now)) c.inputs_at-quarter.ensures in
    let half = c.level_run-2.ensures.run ∙ ap₂ run c.inputs_at-half.ensures quarter in
    c.level_run-3.ensures.run ∙ ap₂ run c.inputs_at-full.ensures half

pub returns-clause-run : goal.returns-clause-run
returns-clause-run c = made (goal.at.returns-clause-run c).After-level_run-3

pub returns-clause-same_previous : goal.returns-clause-same_previous
returns-clause-same_previous c p same =
    let a = c.args in
    made (goal.at.returns-clause-same_previous c).After-level_run-3
    ∙ frame_run-same_previous a.width a.height (planes_lent a.cur.now) (planes_lent a.reference.now) a.weight a.list.now (lent_mut a.grid.now) same
