-- `points::window::span_count` meets its contract: one more than how far hi is above lo, and none where it is below.
use native.Mathlib.Omega.{arith}
use Rattle.std.proofs.lemmas.Int.{ints, clamps}
use Rattle.points.specs.Window.{span_count}
use Rattle.points.proofs.window.span_count.Goals as goal

pub returns : goal.returns
unfolding span_count
returns c = grind (arith, ints, clamps)
