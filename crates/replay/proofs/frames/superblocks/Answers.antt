-- No side has more than three.
use Rattle.std.proofs.Common.{arith}
use Rattle.std.proofs.Math.Nat.{mul-le-mul}
use Rattle.replay.proofs.frames.superblocks.Goals as goal

pub returns : goal.returns
returns c = mul-le-mul {n₂ = 3} {m₂ = 3} (omega arith) (omega arith)
