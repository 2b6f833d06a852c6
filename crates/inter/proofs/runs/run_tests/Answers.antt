-- `inter::runs::run_tests` meets its contract: each return has the tests before it passed.
use Rattle.std.proofs.Common.{◌≡◌, ◌≤◌, true, ◌&&◌, length, sym, rules, arith}
use Rattle.std.proofs.lemmas.Grind.{common_steps}
use Rattle.ground.proofs.TestLaws.{both}
use Rattle.motion.specs.Limits.{largest_side}
use Rattle.refusal.specs.Refusals.{refuse, ◌then◌, side_ok, planes_refusal}
use Rattle.refusal.proofs.RefusalLaws.{side_of}
use Rattle.refusal.proofs.KindsLaws.{err-then}
use Rattle.refusal.proofs.PresentLaws.{fit-of}
use Rattle.inter.specs.Runs.{lengths_of, run_tests}
use Rattle.inter.proofs.runs.run_tests.Goals.{Else-not-side_ok, In_ok-planes_test, In_ok-planes_test-2}
use Rattle.inter.proofs.runs.run_tests.Goals as goal

sides : (c : Else-not-side_ok) → side_ok c.args.width && side_ok c.args.height ≡ true
sides c = search rules

short : (c : Else-not-side_ok) → (c.args.width ≤ largest_side) × (c.args.height ≤ largest_side)
short c =
    let passed = both (side_ok c.args.width) (side_ok c.args.height) (sides c) in
    ((side_of c.args.width passed.0).most, (side_of c.args.height passed.1).most)

quarter : (c : In_ok-planes_test) → planes_refusal c.args.width c.args.height 4 (length c.args.cur.now.quarter.now) (length c.args.reference.now.quarter.now) ≡ 0
quarter c = sym c.in_ok-planes_test.ensures

half : (c : In_ok-planes_test-2) → planes_refusal c.args.width c.args.height 3 (length c.args.cur.now.half.now) (length c.args.reference.now.half.now) ≡ 0
half c = sym c.in_ok-planes_test-2.ensures

pub returns-then-not-side_ok : goal.returns-then-not-side_ok
unfolding run_tests refuse ◌then◌
returns-then-not-side_ok c = grind (arith, common_steps)

pub planes_test-requires : goal.planes_test-requires
planes_test-requires c = short c

pub returns-in_err-planes_test : goal.returns-in_err-planes_test
unfolding run_tests lengths_of refuse ◌then◌
returns-in_err-planes_test c = rw (sides (goal.at.returns-in_err-planes_test c).Else-not-side_ok) (search (rules, err-then))

pub planes_test-requires-2 : goal.planes_test-requires-2
planes_test-requires-2 c = short (goal.at.planes_test-requires-2 c).Else-not-side_ok

pub returns-in_err-planes_test-2 : goal.returns-in_err-planes_test-2
unfolding run_tests lengths_of refuse ◌then◌
returns-in_err-planes_test-2 c =
    rw (sides (goal.at.returns-in_err-planes_test-2 c).Else-not-side_ok, quarter (goal.at.returns-in_err-planes_test-2 c).In_ok-planes_test) (search (rules, err-then))

pub planes_test-requires-3 : goal.planes_test-requires-3
planes_test-requires-3 c = short (goal.at.planes_test-requires-3 c).Else-not-side_ok

pub returns-in_err-planes_test-3 : goal.returns-in_err-planes_test-3
unfolding run_tests lengths_of refuse ◌then◌
returns-in_err-planes_test-3 c =
    rw (sides (goal.at.returns-in_err-planes_test-3 c).Else-not-side_ok, quarter (goal.at.returns-in_err-planes_test-3 c).In_ok-planes_test, half (goal.at.returns-in_err-planes_test-3 c).In_ok-planes_test-2) (search (rules, err-then))

pub grids_fit-requires : goal.grids_fit-requires
grids_fit-requires c = short (goal.at.grids_fit-requires c).Else-not-side_ok

pub returns-then-not-grids_fit : goal.returns-then-not-grids_fit
unfolding run_tests lengths_of refuse ◌then◌
returns-then-not-grids_fit c = grind (arith, common_steps, fit-of)

pub returns : goal.returns
unfolding run_tests lengths_of refuse ◌then◌
returns c = grind (arith, common_steps, fit-of)
