use Rattle.std.proofs.Common.{◌≡◌, ◌+◌, ◌*◌}
use Rattle.grid.specs.Save.{up_to, save_where}
use Rattle.grid.specs.Lent.{lent_mut, SameBuffers}
use Rattle.grid.proofs.lent.GridMut.save_row.Given as goal

abbrev pub invariant-loop-fours : goal.invariant-loop-fours
invariant-loop-fours l =
    (lent_mut l.self ≡ save_where (up_to l.from (l.from + 4 * l.fours)) l.stats (lent_mut l.initial.self))
    × SameBuffers l.initial.self l.self
