-- `compare::cells::differs_at` meets its contract. Assumes nothing.
use mathlib.Core.Path.{ap, ap₂, ◌∙◌}
use mathlib.Core.Bool.{not}
use Rattle.compare.specs.Differ.{same_cell, differs_at}
use Rattle.compare.proofs.cells.differs_at.Goals as goal

pub returns : goal.returns
unfolding differs_at
returns c =
    ap not (c.same_cell.ensures ∙ ap₂ same_cell c.stats_at-a.ensures c.stats_at-b.ensures)
