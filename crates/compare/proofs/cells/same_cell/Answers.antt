-- `compare::cells::same_cell` meets its contract: the derived test is that of each number.
use Rattle.compare.specs.Differ.{same_cell}
use Rattle.compare.proofs.CellLaws.{tests_agree}
use Rattle.compare.proofs.cells.same_cell.Goals as goal

pub returns : goal.returns
unfolding same_cell
returns c = rw (← tests_agree c.args.a.mv.row c.args.b.mv.row, ← tests_agree c.args.a.mv.col c.args.b.mv.col) c.eq.ensures
