-- `single::leaves::range_of_block` meets its contract.
use borrow.Author.Tests.{ne_eqb}
use Rattle.std.proofs.Common.{sym, arith}
use Rattle.std.proofs.lemmas.Result.{err_from_is_err_and}
use Rattle.refusal.specs.Kinds.{number_of}
use Rattle.refusal.proofs.KindsLaws.{number-some}
use Rattle.single.specs.Leaves.{range_from, range_with, range_answer}
use Rattle.single.proofs.leaves.range_of_block.Goals as goal

pub block_at-requires : goal.block_at-requires
block_at-requires c = sym c.in_ok-test.ensures

pub returns-in_err-test : goal.returns-in_err-test
unfolding range_from range_with range_answer
returns-in_err-test c =
    let p = err_from_is_err_and c.from_residual.result c.from_residual.ensures.1 in
    let r = c.in_err-test.field-0.0 in
    let some = number-some r in
    rw (p.1, p.2, ← c.in_err-test.ensures) (rw (ne_eqb (number_of r) 0 (λ z. omega arith)))

pub returns : goal.returns
unfolding range_from range_with range_answer
returns c = rw (← c.in_ok-test.ensures, c.block_at.ensures)
