use Rattle.std.proofs.Common.{◌≡◌, ◌*◌}
use Rattle.std.proofs.lemmas.List.Edits.{sets}
use Rattle.grid.specs.Lent.{lent}
use Rattle.records.specs.Forms.{one_sad, header_bytes}
use Rattle.gridfile.specs.Writing.{cell_records}
use Rattle.gridfile.proofs.write.put_cells.Given as goal

-- the records of the pairs so far stand behind the header
abbrev pub invariant-loop-pair : goal.invariant-loop-pair
invariant-loop-pair l = l.file ≡ sets l.initial.file header_bytes (cell_records one_sad (lent l.grid) 0 (2 * l.pair))
