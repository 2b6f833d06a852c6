-- `order::list::neighbours_seen` meets its contract: the left and the upper neighbour are the earlier ones. Assumes nothing.
use Rattle.std.proofs.Common.{false, get_or, arith}
use Rattle.std.proofs.lemmas.Bool.Decides.{nat_tests}
use Rattle.order.proofs.EdgeLaws.{earlier-is}
use Rattle.order.proofs.list.neighbours_seen.Goals as goal

pub returns-then-left : goal.returns-then-left
returns-then-left c = rw (← earlier-is c.args.across c.args.n (λ k. get_or c.args.seen.now k false) c.requires.0) (grind (arith, nat_tests))

pub returns-else-left : goal.returns-else-left
returns-else-left c = rw (← earlier-is c.args.across c.args.n (λ k. get_or c.args.seen.now k false) c.requires.0) (grind (arith, nat_tests))
