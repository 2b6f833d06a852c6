-- `points::patterns::pattern_point` meets its contract.
use Rattle.motion.proofs.VectorLaws.{plus_fits}
use Rattle.points.proofs.PatternLaws.{offset-short}
use Rattle.points.proofs.patterns.pattern_point.Goals as goal

pub add-requires : goal.add-requires
add-requires c = rw c.pattern_offset.ensures (plus_fits c.args.center _ c.requires.2 (offset-short c.args.pattern c.requires.0 c.args.i c.requires.1))
