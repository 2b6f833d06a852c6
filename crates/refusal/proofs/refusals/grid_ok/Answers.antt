-- `refusal::refusals::grid_ok` meets its contract.
use mathlib.Core.Path.{refl}
use Rattle.grid.specs.Grid.{cells}
use Rattle.refusal.specs.Refusals.{grid_ok}
use Rattle.refusal.proofs.refusals.grid_ok.Goals as goal

pub returns : goal.returns
unfolding grid_ok cells
returns c = refl
