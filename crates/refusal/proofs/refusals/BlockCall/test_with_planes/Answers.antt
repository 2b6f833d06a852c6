-- `refusal::refusals::BlockCall::test_with_planes` meets its contract.
use Rattle.std.proofs.Common.{rules, sym}
use Rattle.refusal.specs.Refusals.{call_refusal}
use Rattle.refusal.proofs.RefusalLaws.{accepted}
use Rattle.refusal.proofs.KindsLaws.{err-then, ok-then}
use Rattle.refusal.proofs.refusals.BlockCall.test_with_planes.Goals as goal

pub returns-in_err-test : goal.returns-in_err-test
unfolding call_refusal
returns-in_err-test c = search (rules, err-then)

pub planes_test-requires : goal.planes_test-requires
planes_test-requires c =
    let a = c.args.self in
    let placed = accepted a.width a.height a.level a.refined a.bx a.by (sym c.in_ok-test.ensures) in
    (placed.wide.most, placed.high.most)

pub returns : goal.returns
unfolding call_refusal
returns c = ok-then _ _ _ c.in_ok-test.ensures c.planes_test.ensures
