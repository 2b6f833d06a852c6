use mathlib.Core.Path.{◌≡◌}
use Rattle.sad.specs.Planes.{rd_in}
use Rattle.search.specs.Hexagon.{tried_to}
use Rattle.search.proofs.hexagon.hexagon_six.Given as goal

abbrev pub invariant-loop-i : goal.invariant-loop-i
invariant-loop-i l = l.cand ≡ tried_to (rd_in l.p) l.center l.i
