use Rattle.grid.specs.Lent.{lent_mut, SameBuffers}
use Rattle.reader.proofs.WholeLaws.{Gone}
use Rattle.reader.proofs.fragment.take_records.Given as goal

abbrev pub invariant-loop-i : goal.invariant-loop-i
invariant-loop-i l =
    record {
      gone : Gone l.fn.reader.columns l.fn.reader.rows l.fn.reader.cells l.fragment (lent_mut l.initial.grid) l.i (lent_mut l.grid);
      same : SameBuffers l.initial.grid l.grid;
    }
