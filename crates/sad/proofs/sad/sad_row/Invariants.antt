use mathlib.Core.Path.{◌≡◌}
use Prim.Native.Nat.{◌≤◌, ◌*◌, ◌+◌}
use lib.ListN.{length}
use Rattle.motion.specs.Limits.{largest_sample}
use Rattle.sad.specs.Sad.{sad_row}
use Rattle.sad.proofs.sad.sad_row.Given as goal

abbrev pub invariant-loop-a : goal.invariant-loop-a
invariant-loop-a l = record {
  few : l.sum + largest_sample * length l.a-iterator.a.rest.now ≤ largest_sample * length l.cur;
  level : length l.a-iterator.b.rest.now ≡ length l.a-iterator.a.rest.now;
  rest : l.sum + sad_row l.a-iterator.a.rest.now 0 l.a-iterator.b.rest.now 0 (length l.a-iterator.a.rest.now) ≡ sad_row l.cur 0 l.reference 0 (length l.cur);
}
