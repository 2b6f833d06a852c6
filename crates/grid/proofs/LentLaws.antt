-- Laws of lent grids: buffers that stay the same. Assumes nothing.
use Rattle.std.proofs.Common.{refl, ◌∙◌}
use Rattle.grid.specs.declared.lent.GridMut.{GridMut}
use Rattle.grid.specs.Lent.{SameBuffers}

pub same-refl : (g : GridMut) → SameBuffers g g
same-refl g = record { rows = refl; cols = refl; sads = refl; rows_length = refl; cols_length = refl; sads_length = refl }

pub same-trans : {f g h : GridMut} → SameBuffers f g → SameBuffers g h → SameBuffers f h
same-trans one two =
    record {
      rows = two.rows ∙ one.rows;
      cols = two.cols ∙ one.cols;
      sads = two.sads ∙ one.sads;
      rows_length = two.rows_length ∙ one.rows_length;
      cols_length = two.cols_length ∙ one.cols_length;
      sads_length = two.sads_length ∙ one.sads_length;
    }
