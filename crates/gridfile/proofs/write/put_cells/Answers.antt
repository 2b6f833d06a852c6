-- `gridfile::write::put_cells` meets its contract: after each turn the records of the pairs so far stand behind the header.
use Rattle.std.proofs.Common.{◌≡◌, ℕ, ◌+◌, ◌*◌, List, refl, ap, ◌∙◌, arith, zero-add, add-one}
use Rattle.std.proofs.lemmas.List.Edits.{sets}
use Rattle.grid.specs.declared.cells.MEStats.{MEStats}
use Rattle.grid.specs.Grid.{Grid, stats_at, room}
use Rattle.grid.specs.Lent.{lent}
use Rattle.records.specs.Forms.{one_sad, header_bytes, cell_bytes}
use Rattle.records.specs.Records.{cell_record, file_bytes}
use Rattle.records.proofs.NumberLaws.{puts_on}
use Rattle.gridfile.specs.Writing.{cell_records}
use Rattle.gridfile.proofs.WriteLaws.{length-cells, cells-snoc}
use Rattle.gridfile.proofs.write.put_cells.Goals as goal

-- a cell's record behind those before it
next-cell : (l : List ℕ) (g : Grid) (i : ℕ) {m n : List ℕ} {s : MEStats} → m ≡ sets l header_bytes (cell_records one_sad g 0 i) → s ≡ stats_at g i → n ≡ sets m (header_bytes + cell_bytes * i) (cell_record one_sad s) → n ≡ sets l header_bytes (cell_records one_sad g 0 (i + 1))
next-cell l g i e f h =
    rw (add-one, cells-snoc, zero-add, ← f) (puts_on l header_bytes (cell_records one_sad g 0 i) _ e h (simp length-cells))

pub loop-pair-init : goal.loop-pair-init
unfolding cell_records
loop-pair-init c = refl

pub overflow_mul-at : goal.overflow_mul-at
unfolding file_bytes
overflow_mul-at c = omega arith

pub overflow_add-at : goal.overflow_add-at
unfolding file_bytes
overflow_add-at c = omega arith

pub stats_at-requires : goal.stats_at-requires
unfolding room
stats_at-requires c = (omega arith, omega arith, omega arith)

pub put_cell-requires : goal.put_cell-requires
unfolding file_bytes
put_cell-requires c = omega arith

pub overflow_add-at-in-loop-pair : goal.overflow_add-at-in-loop-pair
unfolding file_bytes
overflow_add-at-in-loop-pair c = omega arith

pub stats_at-requires-in-loop-pair : goal.stats_at-requires-in-loop-pair
unfolding room
stats_at-requires-in-loop-pair c = (omega arith, omega arith, omega arith)

pub put_cell-requires-in-loop-pair : goal.put_cell-requires-in-loop-pair
unfolding file_bytes
put_cell-requires-in-loop-pair c = omega arith

pub loop-pair-preserved : goal.loop-pair-preserved
loop-pair-preserved c =
    let i : ℕ = 2 * c.loop-pair.pair in
    let one = next-cell _ _ _ c.loop-pair.invariant c.stats_at.ensures c.put_cell.ensures in
    let place : 4 + 10 * i + 10 ≡ header_bytes + cell_bytes * (i + 1) = omega arith in
    let two = next-cell _ _ _ one c.stats_at-in-loop-pair.ensures (c.put_cell-in-loop-pair.ensures ∙ ap (λ (at : ℕ). sets c.put_cell.new.file at (cell_record one_sad c.stats_at-in-loop-pair.result)) place) in
    two ∙ ap (λ (n : ℕ). sets c.args.file.now header_bytes (cell_records one_sad (lent c.args.grid.now) 0 n)) (omega arith)
