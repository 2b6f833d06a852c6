-- `grid::lent::GridMut::fill` meets its contract: each buffer is filled from `from` up to `to`.
use Rattle.std.proofs.Common.{rules}
use mir.Syntax.{w16}
use mir.Val.{SFits}
use mir.ValLaws.{to_z-of_z}
use Rattle.grid.specs.Save.{save_where}
use Rattle.grid.proofs.SaveLaws.{same-grid, fill-replaces}
use Rattle.grid.proofs.lent.GridMut.fill.Goals as goal

pub returns-clause-saved : goal.returns-clause-saved
unfolding save_where
returns-clause-saved c =
    let a = c.args in
    let row : SFits w16 a.stats.mv.row = search rules in
    let col : SFits w16 a.stats.mv.col = search rules in
    let rows = simp to_z-of_z at (c.fill.ensures.after (λ y e. e)) in
    let cols = simp to_z-of_z at (c.fill-2.ensures.after (λ y e. e)) in
    let fits = c.requires.to_in_bounds in
    same-grid (fill-replaces _ _ _ _ c.requires.from_le_to fits.0 _ rows)
    (fill-replaces _ _ _ _ c.requires.from_le_to fits.1 _ cols)
    (fill-replaces _ _ _ _ c.requires.from_le_to fits.2 _ (c.fill-3.ensures.after (λ y e. e)))
