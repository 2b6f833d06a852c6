use mathlib.Core.Path.{◌≡◌}
use Prim.Native.Nat.{◌+◌, ◌≤◌}
use Rattle.sad.specs.Planes.{rd_in}
use Rattle.search.specs.Diamond.{diamond_at}
use Rattle.search.proofs.ResultLaws.{Kept}
use Rattle.search.proofs.InRange.{Ranged, ranged}
use Rattle.search.proofs.diamond.fullpel_diamond_search.Given as goal

abbrev pub invariant-loop-current : goal.invariant-loop-current
invariant-loop-current l =
    (l.diamond_radius_log2 ≤ 1) × Kept (rd_in l.p) (Ranged l.p.block) (ranged l.p.block l.p.cur.now l.p.reference.now) l.current
    × (diamond_at (rd_in l.p) l.diamond_radius_log2 l.current ≡ diamond_at (rd_in l.p) l.initial.diamond_radius_log2 l.initial.current)

abbrev pub decreases-loop-current : goal.decreases-loop-current
decreases-loop-current l = l.current.rd.cost + l.diamond_radius_log2
