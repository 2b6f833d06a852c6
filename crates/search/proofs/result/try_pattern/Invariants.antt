use mathlib.Core.Path.{◌≡◌}
use Rattle.sad.specs.Planes.{rd_in}
use Rattle.points.specs.Patterns.{point_of}
use Rattle.search.specs.Result.{try_each}
use Rattle.search.proofs.result.try_pattern.Given as goal

abbrev pub invariant-loop-i : goal.invariant-loop-i
invariant-loop-i l = l.best ≡ try_each (rd_in l.p) l.initial.best l.i (point_of l.pattern l.center)
