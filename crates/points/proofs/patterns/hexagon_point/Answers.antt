-- `points::patterns::hexagon_point` meets its contract.
use mathlib.Core.Path.{refl}
use Rattle.motion.proofs.VectorLaws.{plus_fits}
use Rattle.points.specs.Patterns.{hexagon_table}
use Rattle.points.proofs.PatternLaws.{slight_at, slight_short}
use Rattle.points.proofs.patterns.hexagon_point.Goals as goal

pub add-requires : goal.add-requires
add-requires c = plus_fits c.args.center _ c.requires.1 (slight_short _ (slight_at hexagon_table refl c.args.i))
