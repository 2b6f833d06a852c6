-- `refusal::refusals::BlockCall::test` meets its contract: each return has the tests before it passed.
use Rattle.std.proofs.Common.{rules, arith}
use Rattle.std.proofs.lemmas.Grind.{common_steps}
use Rattle.refusal.specs.Refusals.{refuse, ◌then◌, block_refusal}
use Rattle.refusal.proofs.refusals.BlockCall.test.Goals.{then-side_ok, else-side_ok}
use Rattle.refusal.proofs.refusals.BlockCall.test.Goals as goal

pub returns-then-not-side_ok : goal.returns-then-not-side_ok
unfolding block_refusal refuse ◌then◌
returns-then-not-side_ok c = grind (arith, common_steps)

pub returns-then-not-level_ok : goal.returns-then-not-level_ok
unfolding block_refusal refuse ◌then◌
returns-then-not-level_ok c = grind (arith, common_steps)

pub returns-then-not-start_ok : goal.returns-then-not-start_ok
unfolding block_refusal refuse ◌then◌
returns-then-not-start_ok c = grind (arith, common_steps)

pub returns : goal.returns
unfolding block_refusal refuse ◌then◌
returns c = search rules
