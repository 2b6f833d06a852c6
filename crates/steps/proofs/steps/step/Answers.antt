-- `steps::steps::step` meets its contract: a step that refusals 1 to 5 do not refuse may be taken.
use Rattle.std.proofs.Common.{◌≡◌, ℕ, length, sym, ap, subst, ◌∙◌, rules, arith}
use Rattle.grid.specs.Grid.{room}
use Rattle.grid.specs.Previous.{Previous, HeldIf}
use Rattle.grid.specs.Lent.{lent_mut, previous_lent}
use Rattle.refusal.specs.Kinds.{number_of}
use Rattle.refusal.specs.Refusals.{refuse}
use Rattle.refusal.specs.Present.{present_of}
use Rattle.refusal.proofs.KindsLaws.{number-some, err-then, ok-then}
use Rattle.refusal.proofs.PresentLaws.{previous-is}
use Rattle.estimate.specs.Inputs.{inputs_of}
use Rattle.superblock.specs.Step.{windows_ok, step}
use Rattle.steps.specs.Steps.{step_tests, step_refusal}
use Rattle.steps.proofs.ReadyLaws.{StepReady, step-ready}
use Rattle.steps.proofs.OutcomeLaws.{step-refused, step-left}
use Rattle.steps.proofs.steps.step.Goals.{In_ok-step_tests, After-room-cells}
use Rattle.steps.proofs.steps.step.Goals as goal

abbrev tests : After-room-cells → ℕ
tests c =
    let a = c.args in
    let p = previous_lent a.prev in
    step_tests a.width a.height a.level a.superblock (length a.cur.now) (length a.reference.now) (present_of p) (room p.grid) (room (lent_mut a.grid.now))

-- the tests were of the grid's room
tested : (c : After-room-cells) (code : ℕ) → code ≡ step_tests c.args.width c.args.height c.args.level c.args.superblock (length c.args.cur.now) (length c.args.reference.now) (present_of (previous_lent c.args.prev)) (room (previous_lent c.args.prev).grid) c.room-cells.result → code ≡ tests c
tested c code e =
    let a = c.args in
    let p = previous_lent a.prev in
    e ∙ ap (λ (n : ℕ). step_tests a.width a.height a.level a.superblock (length a.cur.now) (length a.reference.now) (present_of p) (room p.grid) n) c.room-cells.ensures

none : (c : In_ok-step_tests) → tests (goal.at.In_ok-step_tests c).After-room-cells ≡ 0
none c = sym (tested (goal.at.In_ok-step_tests c).After-room-cells 0 c.in_ok-step_tests.ensures)

ready : (c : In_ok-step_tests) → StepReady c.args.width c.args.height c.args.level c.args.superblock c.args.cur.now c.args.reference.now (present_of (previous_lent c.args.prev)) (previous_lent c.args.prev).grid (lent_mut c.args.grid.now)
ready c = step-ready _ _ _ _ _ _ _ _ _ (none c)

pub returns-in_err-step_tests-clause-refusal : goal.returns-in_err-step_tests-clause-refusal
unfolding step_refusal
returns-in_err-step_tests-clause-refusal c =
    let r = c.in_err-step_tests.field-0.0 in
    let refused = err-then r _ (refuse 8 (windows_ok c.args.width c.args.height c.args.level c.args.superblock c.args.grid.now.rows.now c.args.grid.now.cols.now)) (tested (goal.at.returns-in_err-step_tests-clause-refusal c).After-room-cells (number_of r) c.in_err-step_tests.ensures) in
    search rules

pub returns-in_err-step_tests-clause-left : goal.returns-in_err-step_tests-clause-left
returns-in_err-step_tests-clause-left c =
    let r = c.in_err-step_tests.field-0.0 in
    let some = number-some r in
    (step-refused _ _ _ _ _ _ _ _ 0 _ (tested (goal.at.returns-in_err-step_tests-clause-left c).After-room-cells (number_of r) c.in_err-step_tests.ensures) (λ e. omega arith)).1

pub invariant_of-inputs : goal.invariant_of-inputs
invariant_of-inputs c =
    let ok = ready c in
    let inputs = ok.ready 0 in
    record { wide = inputs.wide; high = inputs.high; leveled = ok.level_passed; cur_held = inputs.cur; reference_held = inputs.ref }

pub superblock_step-requires-clause-inside : goal.superblock_step-requires-clause-inside
superblock_step-requires-clause-inside c = (ready (goal.at.superblock_step-requires-clause-inside c).In_ok-step_tests).inside

pub superblock_step-requires-clause-held_if : goal.superblock_step-requires-clause-held_if
superblock_step-requires-clause-held_if c =
    let a = c.args in
    subst (λ (p : Previous). HeldIf a.width a.height p) (previous-is (previous_lent a.prev)) (ready (goal.at.superblock_step-requires-clause-held_if c).In_ok-step_tests).grids.before

pub superblock_step-requires-clause-held : goal.superblock_step-requires-clause-held
superblock_step-requires-clause-held c = (ready (goal.at.superblock_step-requires-clause-held c).In_ok-step_tests).grids.held

pub returns-clause-refusal : goal.returns-clause-refusal
unfolding step_refusal
returns-clause-refusal c = ok-then _ _ _ (sym (none (goal.at.returns-clause-refusal c).In_ok-step_tests)) c.superblock_step.ensures.refusal

pub returns-clause-left : goal.returns-clause-left
returns-clause-left c =
    let a = c.args in
    let stepped = λ (p : Previous). step (inputs_of a.width a.height a.level a.cur.now a.reference.now 0) p a.superblock (lent_mut a.grid.now) in
    step-left _ _ _ _ _ _ _ _ 0 _ (none (goal.at.returns-clause-left c).In_ok-step_tests)
    (c.superblock_step.ensures.stepped ∙ ap stepped (sym (previous-is (previous_lent a.prev))))
