-- `single::found::Found::done` meets its contract.
use borrow.Author.Rules.{rules}
use mir.Syntax.{w16}
use mir.Val.{SFits}
use mir.ValLaws.{to_z-of_z}
use Rattle.single.specs.Found.{found_of}
use Rattle.single.proofs.found.Found.done.Goals as goal

pub returns : goal.returns
unfolding found_of
returns c =
    let v = c.args.mv in
    let row : SFits w16 v.row = search rules in
    let col : SFits w16 v.col = search rules in
    simp to_z-of_z
