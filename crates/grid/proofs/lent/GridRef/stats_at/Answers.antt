-- `grid::lent::GridRef::stats_at` meets its contract.
use lib.ListN.{get_or}
use Rattle.grid.specs.Grid.{stats_at}
use Rattle.grid.proofs.lent.GridRef.stats_at.Goals as goal

pub returns : goal.returns
unfolding stats_at
returns c =
    λ i. record { mv = c.stored_at.ensures i; normalized_sad = get_or c.args.self.now.sads.now c.args.i 0 }
