use mathlib.Core.Path.{◌≡◌}
use Rattle.sad.specs.Planes.{rd_in}
use Rattle.search.specs.Full.{window_to}
use Rattle.search.proofs.full.full_search.Given as goal

abbrev pub invariant-loop-k : goal.invariant-loop-k
invariant-loop-k l = l.best ≡ window_to (rd_in l.p) l.window.rows l.window.cols l.k
