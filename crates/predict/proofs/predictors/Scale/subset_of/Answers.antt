-- `predict::predictors::Scale::subset_of` meets its contract: after k cells the slots and the least are those of k cells.
use Rattle.std.proofs.Common.{◌≡◌, take, refl}
use Rattle.std.proofs.lemmas.List.{take_all}
use Rattle.grid.specs.Lent.{lent}
use Rattle.sampled.specs.Slots.{slotted}
use Rattle.predict.specs.Predictors.{predictors_at, sads_at, least_of, subset_of}
use Rattle.predict.proofs.PredictorLaws.{predictors-next}
use Rattle.predict.proofs.LeastLaws.{least-next}
use Rattle.predict.proofs.predictors.Scale.subset_of.Goals as goal

pub loop-k-init : goal.loop-k-init
unfolding slotted predictors_at sads_at least_of
loop-k-init c = record { mvs = refl; least = refl }

pub loop-k-preserved : goal.loop-k-preserved
loop-k-preserved c =
    let a = c.args in
    let s = a.self in
    let g = lent a.grid.now in
    let k = c.loop-k.k in
    let mv = predictors-next s.range s.ssdec g a.cells.now k c.loop-k-test.true c.requires.few in
    let sad = least-next g a.cells.now k c.loop-k-test.true in
    record { mvs = cc; least = cc }

pub returns : goal.returns
unfolding subset_of
returns c =
    let all : take c.loop-k.k c.args.cells.now ≡ c.args.cells.now = take_all c.loop-k.k c.args.cells.now c.loop-k-test.false in
    cc
