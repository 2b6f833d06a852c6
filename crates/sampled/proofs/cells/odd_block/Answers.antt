-- `sampled::cells::odd_block` meets its contract: no level has blocks of no pixels.
use Rattle.std.proofs.Common.{◌<◌, ap, arith}
use Rattle.motion.specs.declared.level.Level.{Level}
use Rattle.motion.proofs.LevelLaws.{each_level}
use Rattle.sampled.proofs.cells.odd_block.Goals as goal

pub nonzero_div-result : goal.nonzero_div-result
nonzero_div-result c =
    let some = each_level (λ (l : Level). 0 < l.mv_size) (omega arith) (omega arith) (omega arith) c.args.level in
    omega (arith, some, ap (λ (l : Level). l.mv_size) c.level_of.ensures)
