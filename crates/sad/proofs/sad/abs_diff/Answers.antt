-- `sad::sad::abs_diff` meets its contract: the size of a difference is what the one sample has over the other.
use Rattle.std.proofs.Common.{arith}
use Rattle.std.proofs.lemmas.Int.{ints}
use Rattle.sad.specs.Sad.{abs_diff}
use Rattle.sad.proofs.sad.abs_diff.Goals as goal

pub returns : goal.returns
unfolding abs_diff
returns c = record { few = omega (arith, ints); difference = omega (arith, ints) }
