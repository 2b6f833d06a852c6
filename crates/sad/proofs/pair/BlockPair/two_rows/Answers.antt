-- `sad::pair::BlockPair::two_rows` meets its contract.
use mathlib.Core.Path.{◌≡◌, ap}
use Prim.Native.Nat.{◌+◌}
use native.Mathlib.Omega.{arith}
use Rattle.sad.specs.Pair.{rows_of, row_of}
use Rattle.sad.proofs.PairLaws.{row_more, run_first}
use Rattle.sad.proofs.pair.BlockPair.two_rows.Goals as goal

pub returns-clause-sum : goal.returns-clause-sum
returns-clause-sum g c =
    let p = c.args.self.now in
    let y = c.args.y in
    let wide = c.requires.1 in
    let two : y + 2 ≡ y + 1 + 1 = omega arith in
    omega (arith, ap (rows_of p) two, row_more p y, row_more p (y + 1), ap (row_of p y) wide, ap (row_of p (y + 1)) wide, c.run.ensures.sum, c.run-2.ensures.sum, run_first p y g.row.W, run_first p (y + 1) g.row.W)
