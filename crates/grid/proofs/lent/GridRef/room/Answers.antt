-- `grid::lent::GridRef::room` meets its contract.
use Rattle.std.proofs.Common.{rules}
use Rattle.grid.specs.Grid.{room}
use Rattle.grid.proofs.lent.GridRef.room.Goals as goal

pub returns : goal.returns
unfolding room
returns c = search rules
