-- `estimate::searched::SearchedBlock::try_unless_best` meets its contract: a record of its own vector is no cheaper than itself.
use Rattle.std.proofs.Common.{◌≡◌, true, sym, ◌∙◌, ◌&&◌, int_eq}
use Rattle.std.proofs.lemmas.Bool.Decides.{Decides-int_eq}
use Rattle.ground.proofs.TestLaws.{both}
use Rattle.motion.specs.declared.vector.MotionVector.{MotionVector}
use Rattle.estimate.proofs.BlockFacts.{tried_again}
use Rattle.estimate.proofs.searched.SearchedBlock.try_unless_best.Goals as goal

-- vectors that are equal by their parts
same-vector : (u v : MotionVector) → int_eq u.row v.row && int_eq u.col v.col ≡ true → u ≡ v
same-vector u v equal =
    let halves = both (int_eq u.row v.row) (int_eq u.col v.col) equal in
    let row = (Decides-int_eq u.row v.row).0 halves.0 in
    let col = (Decides-int_eq u.col v.col).0 halves.1 in
    λ i. record { row = row i; col = col i }

pub returns-then-best-lt18446744073709551615 : goal.returns-then-best-lt18446744073709551615
returns-then-best-lt18446744073709551615 c =
    let own = c.requires c.if-best-lt18446744073709551615.true in
    tried_again _ c.args.best c.args.mv (same-vector c.args.best.mv c.args.mv (sym c.eq.ensures ∙ c.if-eq.true)) own
