use mathlib.Core.Path.{◌≡◌}
use Prim.Native.Nat.{◌≤◌, ◌+◌, ◌*◌}
use Rattle.motion.specs.Limits.{largest_sample}
use Rattle.sad.specs.Asked.{largest_block}
use Rattle.sad.specs.Pair.{rows_of, row_of}
use Rattle.sad.proofs.pair.BlockPair.runs_below.Given as goal

abbrev pub invariant-rows : goal.invariant-rows
invariant-rows g l = record {
  few : l.sum ≤ largest_sample * largest_block * l.y;
  so_far : l.sum ≡ rows_of l.self l.y;
}

abbrev pub invariant-loop-i : goal.invariant-loop-i
invariant-loop-i g l = record {
  few : l.sum ≤ l.initial.sum + largest_sample * (g.row.W * l.i);
  so_far : l.sum ≡ l.initial.sum + row_of l.self l.y (g.row.W * l.i);
}
