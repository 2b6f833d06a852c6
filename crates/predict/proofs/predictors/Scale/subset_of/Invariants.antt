use Rattle.std.proofs.Common.{◌≡◌, take}
use Rattle.motion.specs.Vector.{zero_v}
use Rattle.grid.specs.Lent.{lent}
use Rattle.sampled.specs.Slots.{slotted}
use Rattle.predict.specs.Predictors.{predictors_at, sads_at, least_of}
use Rattle.predict.proofs.predictors.Scale.subset_of.Given as goal

abbrev pub invariant-loop-k : goal.invariant-loop-k
invariant-loop-k l = record {
  mvs : l.mvs ≡ slotted zero_v (predictors_at l.self.range l.self.ssdec (lent l.grid) (take l.k l.cells));
  least : l.least ≡ least_of (sads_at (lent l.grid) (take l.k l.cells));
}
