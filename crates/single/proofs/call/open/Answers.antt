-- `single::call::open` meets its contract: a call that is not refused lends planes in which its block lies.
use Rattle.std.proofs.Common.{length, sym}
use Rattle.sad.proofs.Contained.{weighed-lies}
use Rattle.single.proofs.OpenedLaws.{Opened, opened}
use Rattle.single.proofs.call.open.Goals.{In_ok-test_with_planes}
use Rattle.single.proofs.call.open.Goals as goal

-- the refusals 1 to 4 passed
ok : (c : In_ok-test_with_planes) → let a = c.args.call in Opened a.width a.height a.level a.refined a.bx a.by (length c.args.cur.now) (length c.args.reference.now)
ok c = opened _ _ _ _ _ _ _ _ (sym c.in_ok-test_with_planes.ensures)

pub block_at-requires : goal.block_at-requires
block_at-requires c = (ok c).none

pub invariant_of-result : goal.invariant_of-result
invariant_of-result c =
    let o = ok (goal.at.invariant_of-result c).In_ok-test_with_planes in
    rw (c.weighed-block.ensures, c.block_at.ensures)
    (record { lies_cur = weighed-lies _ o.cur; lies_reference = weighed-lies _ o.ref })
