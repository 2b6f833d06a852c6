-- `single::predicting::Predictors::of` meets its contract.
use Rattle.sampled.specs.Slots.{slotted}
use Rattle.single.specs.Predicting.{predictors_from, predictors_with, refused_predictors}
use Rattle.single.proofs.predicting.Predictors.of.Goals as goal

pub returns-in-Ok : goal.returns-in-Ok
unfolding predictors_from predictors_with
returns-in-Ok c = rw c.in-Ok.is

pub returns-in-Err : goal.returns-in-Err
unfolding predictors_from refused_predictors slotted
returns-in-Err c = rw (c.in-Err.is, c.number.ensures)
