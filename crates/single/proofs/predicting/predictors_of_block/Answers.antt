-- `single::predicting::predictors_of_block` meets its contract: a block that is not refused samples cells of grids that hold them.
use Rattle.std.proofs.Common.{◌≡◌, true, false, sym, ap, ◌∙◌, arith}
use Rattle.std.proofs.lemmas.Result.{err_from_is_err_and}
use Rattle.motion.specs.Level.{level_of}
use Rattle.motion.specs.Frame.{Placed}
use Rattle.grid.specs.Grid.{room}
use Rattle.grid.specs.Previous.{previous}
use Rattle.grid.specs.Lent.{lent, previous_lent}
use Rattle.refusal.specs.Refusals.{refuse, size_of, ◌then◌, grids_hold}
use Rattle.refusal.proofs.KindsLaws.{number-some, err-then}
use Rattle.refusal.proofs.RefusalLaws.{refuse-is, then_later, accepted}
use Rattle.refusal.proofs.GridsLaws.{Fitting, fitting, fit-is}
use Rattle.predict.proofs.SubsetLaws.{Sound, subsets_sound}
use Rattle.single.specs.Predicting.{predictors_from, predictors_with, predictors_answer, predictors_refusal}
use Rattle.single.proofs.AnswerLaws.{predictors-refused}
use Rattle.single.proofs.predicting.predictors_of_block.Goals.{In_ok-test, Else-not-grids_fit}
use Rattle.single.proofs.predicting.predictors_of_block.Goals as goal

-- refusals 1 to 3 passed
placed : (c : In_ok-test) → let a = c.args in Placed a.width a.height (level_of a.level) (level_of a.level).mv_size a.bx a.by
unfolding size_of
placed c = accepted _ _ _ 0 _ _ (sym c.in_ok-test.ensures)

-- and refusal 5
fits : (c : Else-not-grids_fit) → let a = c.args in Fitting a.width a.height (previous_lent a.prev) (lent a.grid.now)
fits c = fitting _ _ _ _ (cc)

pub returns-in_err-test-clause-answer : goal.returns-in_err-test-clause-answer
unfolding predictors_from predictors_answer predictors_refusal
returns-in_err-test-clause-answer c present before same =
    let p = err_from_is_err_and c.from_residual.result c.from_residual.ensures.1 in
    let r = c.in_err-test.field-0.0 in
    let some = number-some r in
    rw (p.1, p.2) (predictors-refused _ _ (err-then r _ _ c.in_err-test.ensures) (λ z. omega arith))

pub grids_fit-requires : goal.grids_fit-requires
grids_fit-requires c =
    let block = placed (goal.at.grids_fit-requires c).In_ok-test in
    (block.wide.most, block.high.most)

pub returns-then-not-grids_fit-clause-answer : goal.returns-then-not-grids_fit-clause-answer
unfolding predictors_from predictors_answer predictors_refusal
returns-then-not-grids_fit-clause-answer c present before same =
    let a = c.args in
    let is = fit-is a.width a.height present (room (lent a.grid.now)) before (previous_lent a.prev) same in
    let short : grids_hold a.width a.height present (room before) (room (lent a.grid.now)) ≡ false = cc in
    predictors-refused _ _ (sym (then_later _ _ (sym c.in_ok-test.ensures) ∙ refuse-is 5 _ short)) (λ z. absurd (omega arith))

pub get_subset_predictors-requires-clause-placed : goal.get_subset_predictors-requires-clause-placed
get_subset_predictors-requires-clause-placed c = placed (goal.at.get_subset_predictors-requires-clause-placed c).In_ok-test

pub get_subset_predictors-requires-clause-prev_held : goal.get_subset_predictors-requires-clause-prev_held
get_subset_predictors-requires-clause-prev_held c = (fits c).before

pub get_subset_predictors-requires-clause-held : goal.get_subset_predictors-requires-clause-held
get_subset_predictors-requires-clause-held c = (fits c).held

pub returns-clause-answer : goal.returns-clause-answer
unfolding predictors_from predictors_answer predictors_refusal previous refuse ◌then◌
returns-clause-answer c present before same =
    let a = c.args in
    let g = lent a.grid.now in
    let is = fit-is a.width a.height present (room g) before (previous_lent a.prev) same in
    let held : grids_hold a.width a.height present (room before) (room g) ≡ true = cc in
    rw (← c.in_ok-test.ensures, held)
    (ap (predictors_with 0) (c.get_subset_predictors.ensures.same_previous (previous present before) same))

pub returns-clause-few : goal.returns-clause-few
returns-clause-few c =
    let sound : Sound c.get_subset_predictors.result = rw c.get_subset_predictors.ensures.subsets (subsets_sound _ _ _ _ _ _ _ _) in
    (sound.b-most, sound.c_most)
