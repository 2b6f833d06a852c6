-- `grid::lent::GridRef::stored_at` meets its contract.
use borrow.Author.Rules.{rules}
use lib.IntN.{pos}
use lib.ListN.{get_or}
use mir.Syntax.{w16}
use mir.Val.{SFits}
use mir.ValLaws.{to_z-of_z}
use Rattle.grid.specs.Grid.{stored_at}
use Rattle.grid.proofs.lent.GridRef.stored_at.Goals as goal

pub returns : goal.returns
unfolding stored_at
returns c =
    let a = c.args.self.now in
    let row : SFits w16 (get_or a.rows.now c.args.i (pos 0)) = search rules in
    let col : SFits w16 (get_or a.cols.now c.args.i (pos 0)) = search rules in
    simp to_z-of_z
