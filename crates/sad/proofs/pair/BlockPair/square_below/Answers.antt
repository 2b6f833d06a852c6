-- `sad::pair::BlockPair::square_below` meets its contract: the sum of the rows so far is no more than that of all, and rows that are
-- added to the lesser of limit and sum reach the limit where they do added to the sum.
use mathlib.Core.Path.{◌≡◌, ap}
use Prim.Native.Nat.{◌+◌, min}
use native.Mathlib.Omega.{arith}
use Rattle.sad.specs.Pair.{rows_of}
use Rattle.sad.proofs.PairLaws.{no_rows, rows_le}
use Rattle.sad.proofs.pair.BlockPair.square_below.Goals.{After-two_rows-r3}
use Rattle.sad.proofs.pair.BlockPair.square_below.Goals as goal

-- eight rows, as far as the limit can tell
eight : (c : After-two_rows-r3) → let a = c.args in min a.limit (c.at_most-four.result + (c.two_rows-r2.result + c.two_rows-r3.result)) ≡ min a.limit (rows_of a.self 8)
eight c =
    omega (arith, no_rows c.args.self, c.two_rows-r0.ensures.sum, c.two_rows-r1.ensures.sum, c.at_most-four.ensures, c.two_rows-r2.ensures.sum, c.two_rows-r3.ensures.sum)

pub returns-then-limit-eight : goal.returns-then-limit-eight
returns-then-limit-eight c =
    omega (arith, c.if-limit-eight.true, eight (goal.at.returns-then-limit-eight c).After-two_rows-r3, rows_le c.args.self 8 (omega arith))

-- all
pub returns : goal.returns
returns c =
    omega (arith, eight (goal.at.returns c).After-two_rows-r3, ap (rows_of c.args.self) c.requires.1, c.two_rows-r4.ensures.sum, c.two_rows-r5.ensures.sum, c.at_most-twelve.ensures, c.two_rows-r6.ensures.sum, c.two_rows-r7.ensures.sum, c.at_most.ensures)
