-- `grid::lent::GridMut::save_rest` meets its contract: at each return the cells up to `to` hold the result.
use Rattle.std.proofs.Common.{refl, ◌∙◌, arith}
use Rattle.grid.specs.Grid.{with_cell}
use Rattle.grid.proofs.SaveLaws.{save_begins, save_next}
use Rattle.grid.proofs.lent.GridMut.save_rest.Goals as goal

pub returns-then-from-to-clause-saved : goal.returns-then-from-to-clause-saved
returns-then-from-to-clause-saved c = save_begins c.if-from-to.true _ _

pub returns-then-from-to-2-clause-saved : goal.returns-then-from-to-2-clause-saved
unfolding with_cell
returns-then-from-to-2-clause-saved c =
    c.save_cell.ensures.saved ∙ save_next (omega arith) c.if-from-to-2.true _ _ (save_begins refl _ _)

pub returns-then-from-to-3-clause-saved : goal.returns-then-from-to-3-clause-saved
unfolding with_cell
returns-then-from-to-3-clause-saved c =
    c.save_cell-2.ensures.saved
    ∙ save_next (omega arith) (omega arith) _ _ (c.save_cell.ensures.saved ∙ save_next (omega arith) (omega arith) _ _ (save_begins refl _ _))

pub returns-clause-saved : goal.returns-clause-saved
unfolding with_cell
returns-clause-saved c =
    c.save_cell-3.ensures.saved
    ∙ save_next (omega arith) (omega arith) _ _ (c.save_cell-2.ensures.saved
    ∙ save_next (omega arith) (omega arith) _ _ (c.save_cell.ensures.saved ∙ save_next (omega arith) (omega arith) _ _ (save_begins refl _ _)))
