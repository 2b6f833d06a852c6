use Rattle.refusal.specs.Kinds.{code_of}
use Rattle.order.proofs.PassLaws.{Pass}
use Rattle.order.proofs.list.list_test.Given as goal

abbrev pub invariant-loop-n : goal.invariant-loop-n
invariant-loop-n l = Pass l.across l.count l.list l.n-index l.seen (code_of l.answer)
