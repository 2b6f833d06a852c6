-- `superblock::step::superblock_step` meets its contract.
use Rattle.std.proofs.Common.{◌≡◌, sym, ap, ◌∙◌}
use Rattle.grid.specs.Grid.{Grid}
use Rattle.grid.specs.Lent.{lent_mut, previous_lent}
use Rattle.refusal.specs.Refusals.{refuse}
use Rattle.estimate.specs.Lent.{inputs_lent}
use Rattle.superblock.specs.Step.{windows_ok, estimates, step}
use Rattle.superblock.proofs.StepLaws.{step-refused, step-taken}
use Rattle.superblock.proofs.PreviousLaws.{step-same_previous}
use Rattle.superblock.proofs.step.superblock_step.Goals.{After-windows_ok, After-estimate_sb_motion}
use Rattle.superblock.proofs.step.superblock_step.Goals as goal

-- the test reads the grid as it is lent
test_is : (c : After-windows_ok) → c.windows_ok.result ≡ windows_ok c.args.inputs.now.width c.args.inputs.now.height c.args.inputs.now.level c.args.superblock c.args.grid.now.rows.now c.args.grid.now.cols.now
test_is c =
    let i = c.args.inputs.now in
    c.windows_ok.ensures ∙ ap (λ (g : Grid). windows_ok i.width i.height i.level c.args.superblock g.rows g.cols) c.read.ensures

-- the step that is taken
taken_is : (c : After-estimate_sb_motion) → lent_mut c.estimate_sb_motion.new.grid ≡ step (inputs_lent c.args.inputs.now) (previous_lent c.args.prev) c.args.superblock (lent_mut c.args.grid.now)
taken_is c =
    let none = sym (test_is (goal.at.After-estimate_sb_motion c).After-windows_ok) ∙ c.if-not-windows_ok.false in
    let i = inputs_lent c.args.inputs.now in
    c.estimate_sb_motion.ensures.estimated ∙ ap (estimates i (previous_lent c.args.prev) c.args.superblock) c.refine_sb_motion.ensures.refined
    ∙ sym (step-taken i (previous_lent c.args.prev) c.args.superblock (lent_mut c.args.grid.now) none)

pub returns-then-not-windows_ok-clause-refusal : goal.returns-then-not-windows_ok-clause-refusal
unfolding refuse
returns-then-not-windows_ok-clause-refusal c =
    let empty = sym (test_is (goal.at.returns-then-not-windows_ok-clause-refusal c).After-windows_ok) ∙ c.if-not-windows_ok.true in
    rw empty

pub returns-then-not-windows_ok-clause-stepped : goal.returns-then-not-windows_ok-clause-stepped
returns-then-not-windows_ok-clause-stepped c =
    let empty = sym (test_is (goal.at.returns-then-not-windows_ok-clause-stepped c).After-windows_ok) ∙ c.if-not-windows_ok.true in
    sym (step-refused (inputs_lent c.args.inputs.now) (previous_lent c.args.prev) c.args.superblock (lent_mut c.args.grid.now) empty)

pub returns-then-not-windows_ok-clause-same_previous : goal.returns-then-not-windows_ok-clause-same_previous
returns-then-not-windows_ok-clause-same_previous c p same =
    let empty = sym (test_is (goal.at.returns-then-not-windows_ok-clause-same_previous c).After-windows_ok) ∙ c.if-not-windows_ok.true in
    sym (step-refused (inputs_lent c.args.inputs.now) p c.args.superblock (lent_mut c.args.grid.now) empty)

pub returns-clause-refusal : goal.returns-clause-refusal
unfolding refuse
returns-clause-refusal c =
    let none = sym (test_is (goal.at.returns-clause-refusal c).After-windows_ok) ∙ c.if-not-windows_ok.false in
    rw none

pub returns-clause-stepped : goal.returns-clause-stepped
returns-clause-stepped c = taken_is (goal.at.returns-clause-stepped c).After-estimate_sb_motion

pub returns-clause-same_previous : goal.returns-clause-same_previous
returns-clause-same_previous c p same =
    taken_is (goal.at.returns-clause-same_previous c).After-estimate_sb_motion
    ∙ step-same_previous (inputs_lent c.args.inputs.now) c.args.superblock (lent_mut c.args.grid.now) same
