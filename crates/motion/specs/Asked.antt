-- What inner functions ask of their callers: no rule of the documents.
use Rattle.std.specs.Prelude.{◌≤◌, nat_abs}
use Rattle.motion.specs.declared.vector.MotionVector.{MotionVector}
use Rattle.motion.specs.Limits.{vector_limit}

-- both components are inside the vector limit
pub record Near (v : MotionVector) : Type 0 where
  pub row : nat_abs v.row ≤ vector_limit
  pub col : nat_abs v.col ≤ vector_limit
