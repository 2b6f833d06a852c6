-- `grid::cells::cell_at` meets its contract: a grid has far fewer than 2 ^ 64 cells.
use mathlib.Core.Path.{refl}
use Rattle.grid.specs.Grid.{cell_at}
use Rattle.grid.proofs.cells.cell_at.Goals as goal

pub returns : goal.returns
unfolding cell_at
returns c = refl
