-- `estimate::block::lend` meets its contract.
use Rattle.std.proofs.Common.{arith}
use Rattle.estimate.proofs.block.lend.Goals as goal

pub returns-clause-samples : goal.returns-clause-samples
returns-clause-samples c = ((λ i. omega (arith, c.type_inv.cur i)), (λ i. omega (arith, c.type_inv.reference i)))
