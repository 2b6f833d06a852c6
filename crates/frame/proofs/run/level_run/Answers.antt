-- `frame::run::level_run` meets its contract.
use Rattle.std.proofs.Common.{sym, ap, ◌∙◌, get_or, arith}
use Rattle.std.proofs.lemmas.List.{take_all}
use mathlib.Core.List.{List}
use Prim.Native.Nat.{ℕ}
use Rattle.grid.specs.Lent.{lent_mut, previous_lent}
use Rattle.estimate.specs.Lent.{inputs_lent}
use Rattle.superblock.specs.Step.{step}
use Rattle.superblock.proofs.StepLaws.{same-none, same-more}
use Rattle.frame.specs.Run.{level_run}
use Rattle.frame.proofs.RunLaws.{run_none, run_more, held-same}
use Rattle.frame.proofs.run.level_run.Goals as goal

pub loop-superblock-init : goal.loop-superblock-init
loop-superblock-init c =
    record {
      run = sym (run_none (inputs_lent c.args.inputs.now) (previous_lent c.args.prev) (lent_mut c.args.grid.now));
      same = same-none c.args.grid.now;
    }

pub superblock_step-requires : goal.superblock_step-requires
superblock_step-requires c =
    record {
      inside = omega (arith, c.requires.in_frame c.loop-superblock.superblock-index c.loop-superblock-test.true);
      held_if = c.requires.held_if;
      held = held-same c.loop-superblock.invariant.same c.requires.held;
    }

pub loop-superblock-preserved : goal.loop-superblock-preserved
loop-superblock-preserved c =
    let i = inputs_lent c.args.inputs.now in
    let p = previous_lent c.args.prev in
    let list = c.args.list.now in
    let k = c.loop-superblock.superblock-index in
    record {
      run = c.superblock_step.ensures.stepped ∙ ap (step i p (get_or list k 0)) c.loop-superblock.invariant.run ∙ sym (run_more i p list k (lent_mut c.args.grid.now) c.loop-superblock-test.true);
      same = same-more c.loop-superblock.invariant.same c.superblock_step.ensures.same;
    }

pub returns-clause-run : goal.returns-clause-run
returns-clause-run c =
    let list = c.args.list.now in
    let all = take_all c.loop-superblock.superblock-index list c.loop-superblock-test.false in
    c.loop-superblock.invariant.run ∙ ap (λ (ns : List ℕ). level_run (inputs_lent c.args.inputs.now) (previous_lent c.args.prev) ns (lent_mut c.args.grid.now)) all
