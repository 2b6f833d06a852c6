-- `steps::calls::lockdapple_superblock_step` meets its contract: what is lent as values is what was passed.
use Rattle.std.proofs.Common.{◌∙◌, rules}
use Rattle.grid.specs.Grid.{grid_of}
use Rattle.grid.specs.Lent.{previous_lent}
use Rattle.refusal.specs.Present.{present_of}
use Rattle.steps.specs.Steps.{step_refusal, step_grid}
use Rattle.steps.proofs.OutcomeLaws.{refusal-same, grid-same}
use Rattle.steps.proofs.calls.lockdapple_superblock_step.Goals as goal

pub returns-clause-value : goal.returns-clause-value
returns-clause-value c =
    let a = c.args in
    let p = previous_lent c.previous-prev.result in
    let g = grid_of a.rows.now a.cols.now a.sads.now in
    c.code_of.ensures ∙ c.step.ensures.refusal
    ∙ (λ i. step_refusal a.width a.height a.level a.superblock (c.at.ensures i) (c.at-2.ensures i) (present_of p) p.grid g)
    ∙ refusal-same a.width a.height a.level a.superblock _ _ a.present _ p g c.previous-prev.ensures

pub returns-clause-sads_value : goal.returns-clause-sads_value
returns-clause-sads_value c =
    let a = c.args in
    let p = previous_lent c.previous-prev.result in
    let g = grid_of a.rows.now a.cols.now a.sads.now in
    let left = c.step.ensures.left
    ∙ (λ i. step_grid a.width a.height a.level a.superblock (c.at.ensures i) (c.at-2.ensures i) (present_of p) p.grid 0 g)
    ∙ grid-same a.width a.height a.level a.superblock _ _ a.present _ p g c.previous-prev.ensures 0 in
    search rules
