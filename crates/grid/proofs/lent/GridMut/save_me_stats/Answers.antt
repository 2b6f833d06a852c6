-- `grid::lent::GridMut::save_me_stats` meets its contract: after the turns up to y the block's rows up to y hold the result.
use Rattle.std.proofs.Common.{◌≡◌, ℕ, ◌+◌, ◌/◌, min, sym, ap, ◌∙◌, arith}
use Rattle.motion.specs.Limits.{cell_side}
use Rattle.grid.specs.Grid.{cell_at}
use Rattle.grid.specs.Save.{save_where}
use Rattle.grid.specs.Lent.{lent_mut}
use Rattle.grid.proofs.RowLaws.{row_inside, rows_up_to, rows_none, rows_next, rows_all}
use Rattle.grid.proofs.LentLaws.{same-refl, same-trans}
use Rattle.grid.proofs.lent.GridMut.save_me_stats.Goals as goal

pub loop-y-init : goal.loop-y-init
loop-y-init c = (sym (rows_none _ _ _ _ _ _), same-refl _)

pub save_row-requires-clause-from_le_to : goal.save_row-requires-clause-from_le_to
unfolding cell_at
save_row-requires-clause-from_le_to c = omega (arith, c.cell_at-from.ensures, c.cell_at-to.ensures)

pub save_row-requires-clause-to_in_bounds : goal.save_row-requires-clause-to_in_bounds
save_row-requires-clause-to_in_bounds c =
    let a = c.args in
    let inside = row_inside a.width a.height c.block_end-x_end.result c.loop-y.y (omega arith) (omega arith) (omega arith) in
    omega (arith, inside, c.cell_at-to.ensures, c.loop-y.invariant.1, c.requires.held)

pub loop-y-preserved : goal.loop-y-preserved
loop-y-preserved c =
    let a = c.args in
    let end = c.cell_at-to.ensures ∙ ap (λ (x : ℕ). cell_at a.width x c.loop-y.y) c.block_end-x_end.ensures in (
      rows_next _ _ _ _ _ _ _ _ _ _ _ (omega arith) (omega arith) c.cell_at-from.ensures end c.loop-y.invariant.0 c.save_row.ensures.saved,
      same-trans c.loop-y.invariant.1 c.save_row.ensures.same,
    )

pub returns-clause-saved : goal.returns-clause-saved
returns-clause-saved c =
    let a = c.args in
    let end : c.loop-y.y ≡ min (a.by + a.mv_size / cell_side) (a.height / cell_side) = omega arith in
    c.loop-y.invariant.0
    ∙ ap (λ (y : ℕ). save_where (rows_up_to a.width a.mv_size a.bx a.by y) a.stats (lent_mut a.self.now)) end
    ∙ rows_all a.width a.mv_size a.bx a.by a.stats _ a.height
