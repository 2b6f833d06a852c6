-- A call that refusals 1 to 4 leave has its block inside both planes. Assumes nothing.
use mathlib.Core.Path.{◌≡◌}
use Prim.Native.Nat.{ℕ}
use Rattle.motion.specs.Level.{level_of}
use Rattle.motion.specs.Frame.{Placed}
use Rattle.refusal.specs.Refusals.{size_of, block_refusal, planes_refusal, call_refusal}
use Rattle.refusal.proofs.RefusalLaws.{none_of, accepted, lent}
use Rattle.sad.specs.Asked.{Lies}
use Rattle.sad.proofs.Contained.{lies}
use Rattle.single.specs.Call.{block_at}

pub record Opened (width height level refined bx by n m : ℕ) : Type 0 where
  pub none : block_refusal width height level refined bx by ≡ 0
  pub block : Placed width height (level_of level) (size_of level refined) bx by
  pub cur : Lies (block_at width height level refined bx by) n
  pub ref : Lies (block_at width height level refined bx by) m

pub opened : (width height level refined bx by n m : ℕ) → call_refusal width height level refined bx by n m ≡ 0 → Opened width height level refined bx by n m
unfolding call_refusal block_at
opened width height level refined bx by n m e =
    let parts = none_of (block_refusal width height level refined bx by) (planes_refusal width height level n m) e in
    let ok = accepted width height level refined bx by parts.0 in
    let planes = lent width height level n m parts.1 in
    record {
      none = parts.0;
      block = ok;
      cur = lies ok.sized ok.wide ok.high ok.across ok.down n planes.cur;
      ref = lies ok.sized ok.wide ok.high ok.across ok.down m planes.ref;
    }
