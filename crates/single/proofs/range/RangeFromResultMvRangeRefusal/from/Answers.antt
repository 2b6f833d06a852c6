-- `Range::from` meets its contract.
use borrow.Author.Rules.{rules}
use mir.Syntax.{w16}
use mir.Val.{SFits}
use mir.ValLaws.{to_z-of_z}
use Rattle.single.specs.Leaves.{range_with, range_from}
use Rattle.single.proofs.range.RangeFromResultMvRangeRefusal.from.Goals as goal

pub returns-in-Ok : goal.returns-in-Ok
unfolding range_from range_with
returns-in-Ok c =
    let r = c.in-Ok.r in
    let f1 : SFits w16 r.mvx_min = search rules in
    let f2 : SFits w16 r.mvx_max = search rules in
    let f3 : SFits w16 r.mvy_min = search rules in
    let f4 : SFits w16 r.mvy_max = search rules in
    rw c.in-Ok.is (simp to_z-of_z)

pub returns-in-Err : goal.returns-in-Err
unfolding range_from
returns-in-Err c = rw (c.in-Err.is, c.number.ensures)
