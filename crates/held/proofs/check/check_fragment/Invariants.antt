use Prim.Native.Nat.{◌*◌}
use Rattle.records.specs.Forms.{most_cells}
use Rattle.held.specs.Held.{state_of}
use Rattle.held.proofs.SeenLaws.{Seen}
use Rattle.held.proofs.check.check_fragment.Given as goal

abbrev pub invariant-loop-byte : goal.invariant-loop-byte
invariant-loop-byte l = Seen (most_cells * most_cells) (state_of l.initial.held) l.fragment l.byte-index l.held
