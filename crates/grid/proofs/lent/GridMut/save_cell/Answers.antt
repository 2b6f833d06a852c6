-- `grid::lent::GridMut::save_cell` meets its contract.
use borrow.Author.Rules.{rules}
use mathlib.Core.Path.{ap₂}
use lib.IntN.{ℤ}
use lib.ListN.{set}
use mir.Syntax.{w16}
use mir.ValLaws.{to_z-of_z}
use Rattle.grid.specs.Grid.{grid_of, with_cell}
use Rattle.grid.proofs.lent.GridMut.save_cell.Goals as goal

pub returns-clause-saved : goal.returns-clause-saved
unfolding with_cell
returns-clause-saved c =
    let a = c.args.self.now in
    let s = c.args.stats in
    ap₂ (λ (row col : ℤ). grid_of (set a.rows.now c.args.i row) (set a.cols.now c.args.i col) (set a.sads.now c.args.i s.normalized_sad)) (to_z-of_z w16 s.mv.row (search rules)) (to_z-of_z w16 s.mv.col (search rules))
