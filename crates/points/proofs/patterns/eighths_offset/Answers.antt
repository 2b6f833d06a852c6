-- `points::patterns::eighths_offset` meets its contract: the place is one of 25.
use native.Mathlib.Omega.{arith}
use Rattle.std.proofs.lemmas.Int.{ints}
use Rattle.points.specs.Patterns.{offset}
use Rattle.points.proofs.PatternLaws.{place-most}
use Rattle.points.proofs.patterns.eighths_offset.Goals as goal

pub overflow_cast-result : goal.overflow_cast-result
overflow_cast-result c = omega (arith, ints, c.eighths_place-place.ensures, place-most c.args.i c.requires)

pub overflow_sub-result : goal.overflow_sub-result
overflow_sub-result c = omega (arith, ints, c.eighths_place-place.ensures, place-most c.args.i c.requires)

pub returns : goal.returns
unfolding offset
returns c = grind (arith, ints, c.eighths_place-place.ensures, place-most c.args.i c.requires)
