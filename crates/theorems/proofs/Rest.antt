-- The rest of a longer slice isn't read. Assumes nothing.
use Rattle.theorems.specs.Rest.{RestUnread}
use Rattle.theorems.proofs.RestBlocks.{candidate-same, search_same, refine-same, predictors-same}
use Rattle.theorems.proofs.RestRuns.{public_same, frame_same}

pub rest_unread : RestUnread
rest_unread =
    record {
      candidate = λ width height level refined bx by hc hr v weight. candidate-same width height level hc hr refined bx by v weight;
      searches = λ method width height level bx by hc hr v weight. search_same width height level hc hr method bx by v weight;
      refines = refine-same;
      predictors = predictors-same;
      step = λ width height level n hc hr present prev before hp weight g h e. public_same width height level n hc hr present prev before hp weight g h e;
      run = frame_same;
    }
