-- `sad::pair::BlockPair::pairs_below` meets its contract: after i turns the sum is that of 2 i rows.
use mathlib.Core.Path.{◌≡◌, ap}
use Prim.Native.Nat.{◌*◌}
use native.Mathlib.Omega.{arith}
use Rattle.sad.specs.Pair.{rows_of}
use Rattle.sad.proofs.PairLaws.{no_rows, rows_le}
use Rattle.sad.proofs.pair.BlockPair.pairs_below.Goals.{else-loop-i-test, then-loop-i-test+then-limit-sum}
use Rattle.sad.proofs.pair.BlockPair.pairs_below.Goals as goal

pub loop-i-init : goal.loop-i-init
loop-i-init c = record { few = omega arith; so_far = omega (arith, no_rows c.args.self) }

pub returns : goal.returns
returns c =
    let p = c.args.self in
    let i = c.loop-i.i in
    elim c.loop-i-test.branch [
      | else-loop-i-test w ↦
          let done : 2 * i ≡ p.h = omega arith in
          omega (arith, ap (rows_of p) done)
      | then-loop-i-test+then-limit-sum w ↦ omega (arith, rows_le p (2 * i) (omega arith))
    ]
