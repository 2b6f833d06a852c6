-- `sad::pair::BlockPair::run` meets its contract: the sum of what is cut out is that of the run.
use mathlib.Core.Path.{◌∙◌}
use Prim.Native.Nat.{◌+◌, ◌*◌}
use native.Mathlib.Omega.{arith}
use Rattle.sad.proofs.Sums.{row-cut}
use Rattle.sad.proofs.pair.BlockPair.run.Goals as goal

pub returns-clause-sum : goal.returns-clause-sum
returns-clause-sum g c =
    let p = c.args.self.now in
    c.sad_row.ensures.sum
    ∙ row-cut p.cur.now (p.src + c.args.y * p.stride + c.args.x) p.reference.now (p.dst + c.args.y * p.stride + c.args.x) g.row.W _ _
    (omega (arith, p.inside_cur c.args.y)) (omega arith) (omega arith)
