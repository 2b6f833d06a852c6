-- `inter::calls::lockdapple_frame_run` meets its contract: what is lent as values is what was passed.
use Rattle.std.proofs.Common.{◌∙◌, rules}
use Rattle.grid.specs.Grid.{grid_of}
use Rattle.grid.specs.Lent.{previous_lent}
use Rattle.inter.proofs.OutcomeLaws.{refusal-same, grid-same}
use Rattle.inter.proofs.calls.lockdapple_frame_run.Goals as goal

pub returns-clause-value : goal.returns-clause-value
returns-clause-value c =
    let a = c.args in
    let p = previous_lent c.previous-prev.result in
    let g = grid_of a.rows.now a.cols.now a.sads.now in
    c.code_of.ensures ∙ c.run.ensures.refusal ∙ refusal-same _ _ _ _ a.present _ p a.list.now g c.previous-prev.ensures

pub returns-clause-sads_value : goal.returns-clause-sads_value
returns-clause-sads_value c =
    let a = c.args in
    let p = previous_lent c.previous-prev.result in
    let g = grid_of a.rows.now a.cols.now a.sads.now in
    let left = c.run.ensures.left ∙ grid-same _ _ _ _ a.present _ p a.list.now g c.previous-prev.ensures 0 in
    search rules
