-- A grid file is a list of records: the header, then a cell's for each cell.
use Rattle.std.specs.Prelude.{ℕ, ◌+◌, ◌-◌, ◌*◌, ◌<◌, ◌^◌, List, [], ◌∷◌, ◌++◌}
use Rattle.std.proofs.Math.Seq.{slice}
use Rattle.std.specs.Int.{w16}
use Rattle.std.proofs.Common.{of_z, to_z}
use Rattle.motion.specs.Vector.{FitsV}
use Rattle.grid.specs.declared.cells.MEStats.{MEStats}
use Rattle.records.specs.Numbers.{bytes_of, number_of}
use Rattle.records.specs.Forms.{HeaderForm, byte_sides, CellForm, one_sad, Forms, mark, header_size, cell_size, most_cells}

-- the mark, then columns−1 and rows−1, a byte each
unfoldable pub header_record : HeaderForm → (columns rows : ℕ) → List ℕ
header_record byte_sides columns rows = mark ++ (columns - 1) ∷ (rows - 1) ∷ []

-- the mark, then a cell: row and col as signed 16-bit, SAD as u32
unfoldable pub cell_record : CellForm → MEStats → List ℕ
cell_record one_sad c =
    mark ++ bytes_of 2 (of_z w16 c.mv.row) ++ bytes_of 2 (of_z w16 c.mv.col) ++ bytes_of 4 c.normalized_sad

-- the cell that a record holds
unfoldable pub cell_of : CellForm → List ℕ → MEStats
cell_of one_sad bytes =
    record {
      mv = record { row = to_z w16 (number_of (slice 2 4 bytes)); col = to_z w16 (number_of (slice 4 6 bytes)) };
      normalized_sad = number_of (slice 6 10 bytes);
    }

-- no file has more cells
abbrev pub most_file_cells : ℕ
most_file_cells = most_cells * most_cells

-- how many bytes the file of so many cells has
unfoldable pub file_bytes : Forms → (cells : ℕ) → ℕ
file_bytes forms cells = header_size forms.header + cell_size forms.cell * cells

-- the numbers of a cell, as its buffers hold them
pub record FitsCell (c : MEStats) : Type 0 where
  pub mv : FitsV c.mv
  pub sad : c.normalized_sad < 2 ^ 32
