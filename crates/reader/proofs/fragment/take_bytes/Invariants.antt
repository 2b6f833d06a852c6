use Rattle.grid.specs.Lent.{lent_mut, SameBuffers}
use Rattle.held.specs.Held.{state_of}
use Rattle.reader.proofs.TurnLaws.{Turned}
use Rattle.reader.proofs.fragment.take_bytes.Given as goal

abbrev pub invariant-loop-byte : goal.invariant-loop-byte
invariant-loop-byte l =
    record {
      turned : Turned l.room (state_of l.initial.held) l.fragment (lent_mut l.initial.grid) l.byte-index l.held (lent_mut l.grid);
      same : SameBuffers l.initial.grid l.grid;
    }
