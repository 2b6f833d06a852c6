use mathlib.Core.Path.{◌≡◌}
use Prim.Native.Nat.{◌≤◌, ◌*◌}
use Rattle.motion.specs.Limits.{largest_sample}
use Rattle.sad.specs.Pair.{rows_of}
use Rattle.sad.proofs.pair.BlockPair.pairs_below.Given as goal

abbrev pub invariant-loop-i : goal.invariant-loop-i
invariant-loop-i l = record {
  few : l.sum ≤ largest_sample * (2 * 32) * l.i;
  so_far : l.sum ≡ rows_of l.self (2 * l.i);
}
