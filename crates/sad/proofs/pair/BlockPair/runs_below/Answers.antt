-- `sad::pair::BlockPair::runs_below` meets its contract: after y rows and i runs of the next the sum is that of these samples.
use mathlib.Core.Path.{◌≡◌, ap}
use Prim.Native.Nat.{◌+◌, ◌*◌, ◌/◌, ◌≤◌}
use native.Mathlib.Nat.{mul-le-mul_left}
use native.Mathlib.Omega.{arith}
use Rattle.sad.specs.Pair.{rows_of, row_of}
use Rattle.sad.proofs.PairLaws.{no_rows, row_more, no_samples, run_more, samples_le}
use Rattle.sad.proofs.pair.BlockPair.runs_below.Goals.{else-rows-test, then-rows-test+then-loop-i-test+then-limit-sum}
use Rattle.sad.proofs.pair.BlockPair.runs_below.Goals as goal

pub rows-init : goal.rows-init
rows-init g c = record { few = omega arith; so_far = omega (arith, no_rows c.args.self) }

pub loop-i-init : goal.loop-i-init
loop-i-init g c =
    let none : g.row.W * 0 ≡ 0 = omega arith in
    record { few = omega arith; so_far = omega (arith, ap (row_of c.args.self c.rows.y) none, no_samples c.args.self c.rows.y) }

pub loop-i-preserved : goal.loop-i-preserved
loop-i-preserved g c =
    let p = c.args.self in
    let y = c.rows.y in
    let x = g.row.W * c.loop-i.i in
    let next : g.row.W * (c.loop-i.i + 1) ≡ x + g.row.W = omega arith in
    record {
      few = omega arith;
      so_far = omega (arith, c.loop-i.invariant.so_far, c.run-sum.ensures.sum, ap (row_of p y) next, run_more p y x g.row.W);
    }

pub rows-preserved : goal.rows-preserved
rows-preserved g c =
    let p = c.args.self in
    let done : c.loop-i.i ≡ p.w / g.row.W = omega arith in
    let whole : g.row.W * c.loop-i.i ≡ p.w = omega (arith, ap (λ n. g.row.W * n) done) in
    record {
      few = omega (arith, p.sides);
      so_far = omega (arith, c.loop-i.invariant.so_far, c.rows.invariant.so_far, ap (row_of p c.rows.y) whole, row_more p c.rows.y);
    }

pub returns : goal.returns
returns g c =
    let p = c.args.self in
    let y = c.rows.y in
    elim c.rows-test.branch [
      | else-rows-test w ↦
          let done : y ≡ p.h = omega arith in
          omega (arith, w.sum-is, ap (rows_of p) done)
      | then-rows-test+then-loop-i-test+then-limit-sum w ↦
          let x = g.row.W * w.loop-i.i in
          let runs : w.loop-i.i + 1 ≤ p.w / g.row.W = omega arith in
          let within : x + g.row.W ≤ p.w = omega (arith, mul-le-mul_left g.row.W runs) in
          omega (arith, w.sum-is, w.run-sum.ensures.sum, run_more p y x g.row.W, samples_le p y (x + g.row.W) (omega arith) within)
    ]
