use mathlib.Core.Path.{◌≡◌}
use Prim.Native.Nat.{◌<◌}
use Rattle.sad.specs.Planes.{rd_in}
use Rattle.search.specs.Hexagon.{hexagon_at}
use Rattle.search.proofs.ResultLaws.{Sound, Kept}
use Rattle.search.proofs.InRange.{Ranged, ranged}
use Rattle.search.proofs.hexagon.hexagon_search.Given as goal

abbrev pub invariant-loop-cand : goal.invariant-loop-cand
invariant-loop-cand l =
    (l.cand.idx < 6) × Kept (rd_in l.p) (Ranged l.p.block) (ranged l.p.block l.p.cur.now l.p.reference.now) l.current
    × Sound (rd_in l.p) (Ranged l.p.block) (ranged l.p.block l.p.cur.now l.p.reference.now) l.cand.best
    × (hexagon_at (rd_in l.p) l.current l.cand ≡ hexagon_at (rd_in l.p) l.initial.current l.initial.cand)

abbrev pub decreases-loop-cand : goal.decreases-loop-cand
decreases-loop-cand l = l.current.rd.cost
