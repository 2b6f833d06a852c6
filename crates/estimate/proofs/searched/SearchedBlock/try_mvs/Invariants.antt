use Rattle.std.proofs.Common.{◌≡◌, get_or}
use Rattle.motion.specs.Vector.{zero_v}
use Rattle.sad.specs.Planes.{rd_in}
use Rattle.search.specs.Result.{try_each}
use Rattle.estimate.specs.Asked.{Honest}
use Rattle.estimate.proofs.searched.SearchedBlock.try_mvs.Given as goal

-- after some turns the best is that of as many vectors, and honest
abbrev pub invariant-loop-mv : goal.invariant-loop-mv
invariant-loop-mv l = record {
  tried : l.best ≡ try_each (rd_in l.self.planes) l.initial.best l.mv-index (λ j. get_or l.mvs j zero_v);
  honest : Honest (rd_in l.self.planes) l.best;
}
