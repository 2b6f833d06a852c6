use Rattle.std.proofs.Common.{◌≡◌}
use Rattle.grid.specs.Save.{save_where}
use Rattle.grid.specs.Lent.{lent_mut, SameBuffers}
use Rattle.grid.proofs.RowLaws.{rows_up_to}
use Rattle.grid.proofs.lent.GridMut.save_me_stats.Given as goal

abbrev pub invariant-loop-y : goal.invariant-loop-y
invariant-loop-y l =
    (lent_mut l.self ≡ save_where (rows_up_to l.width l.mv_size l.bx l.by l.y) l.stats (lent_mut l.initial.self))
    × SameBuffers l.initial.self l.self
