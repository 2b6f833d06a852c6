-- `steps::steps::step_tests` meets its contract: each return has the tests before it passed.
use Rattle.std.proofs.Common.{◌≡◌, ◌≤◌, true, ◌&&◌, rules, arith}
use Rattle.std.proofs.lemmas.Grind.{common_steps}
use Rattle.ground.proofs.TestLaws.{both}
use Rattle.motion.specs.Limits.{largest_side}
use Rattle.refusal.specs.Refusals.{refuse, ◌then◌, side_ok}
use Rattle.refusal.proofs.RefusalLaws.{side_of}
use Rattle.refusal.proofs.KindsLaws.{err-then}
use Rattle.refusal.proofs.PresentLaws.{fit-of}
use Rattle.steps.specs.Steps.{step_tests}
use Rattle.steps.proofs.steps.step_tests.Goals.{Else-not-side_ok}
use Rattle.steps.proofs.steps.step_tests.Goals as goal

sides : (c : Else-not-side_ok) → side_ok c.args.width && side_ok c.args.height ≡ true
sides c = search rules

short : (c : Else-not-side_ok) → (c.args.width ≤ largest_side) × (c.args.height ≤ largest_side)
short c =
    let passed = both (side_ok c.args.width) (side_ok c.args.height) (sides c) in
    ((side_of c.args.width passed.0).most, (side_of c.args.height passed.1).most)

pub returns-then-not-side_ok : goal.returns-then-not-side_ok
unfolding step_tests refuse ◌then◌
returns-then-not-side_ok c = grind (arith, common_steps)

pub returns-then-not-level_ok : goal.returns-then-not-level_ok
unfolding step_tests refuse ◌then◌
returns-then-not-level_ok c = grind (arith, common_steps)

pub superblocks_of-requires : goal.superblocks_of-requires
superblocks_of-requires c = short (goal.at.superblocks_of-requires c).Else-not-side_ok

pub returns-then-superblocks_of-superblock : goal.returns-then-superblocks_of-superblock
unfolding step_tests refuse ◌then◌
returns-then-superblocks_of-superblock c = grind (arith, common_steps)

pub planes_test-requires : goal.planes_test-requires
planes_test-requires c = short (goal.at.planes_test-requires c).Else-not-side_ok

pub returns-in_err-planes_test : goal.returns-in_err-planes_test
unfolding step_tests refuse ◌then◌
returns-in_err-planes_test c =
    rw (sides (goal.at.returns-in_err-planes_test c).Else-not-side_ok) (search (rules, err-then))

pub grids_fit-requires : goal.grids_fit-requires
grids_fit-requires c = short (goal.at.grids_fit-requires c).Else-not-side_ok

pub returns-then-not-grids_fit : goal.returns-then-not-grids_fit
unfolding step_tests refuse ◌then◌
returns-then-not-grids_fit c = grind (arith, common_steps, fit-of)

pub returns : goal.returns
unfolding step_tests refuse ◌then◌
returns c = grind (arith, common_steps, fit-of)
