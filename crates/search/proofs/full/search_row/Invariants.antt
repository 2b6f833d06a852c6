use mathlib.Core.Path.{◌≡◌}
use Rattle.motion.proofs.VectorLaws.{vector}
use Rattle.sad.specs.Planes.{rd_in}
use Rattle.points.specs.Window.{span_at}
use Rattle.search.specs.Result.{try_each}
use Rattle.search.proofs.full.search_row.Given as goal

abbrev pub invariant-loop-k : goal.invariant-loop-k
invariant-loop-k l = l.best ≡ try_each (rd_in l.p) l.initial.best l.k (λ j. vector l.row (span_at l.cols.lo j))
