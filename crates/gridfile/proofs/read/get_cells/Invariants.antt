use Rattle.grid.specs.Lent.{lent_mut, SameBuffers}
use Rattle.gridfile.proofs.LeftLaws.{Left}
use Rattle.gridfile.proofs.read.get_cells.Given as goal

-- the cells from i on are left
abbrev pub invariant-loop-i : goal.invariant-loop-i
invariant-loop-i l =
    record {
      left : Left l.file l.fn.said.columns l.fn.said.rows (lent_mut l.initial.grid) l.i (lent_mut l.grid);
      same : SameBuffers l.initial.grid l.grid;
    }
