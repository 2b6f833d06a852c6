-- `gridfile::write::write_grid` meets its contract: a refusal writes nothing, and else the header and the cells are the file.
use borrow.Author.Tests.{ne_eqb}
use Rattle.std.proofs.Common.{ap₂, ◌≡◌, ℕ, ◌*◌, length, sym, ap, ◌∙◌, arith}
use Rattle.std.proofs.lemmas.Result.{err_from_is_err_and}
use Rattle.std.proofs.lemmas.List.Edits.{sets}
use Rattle.grid.specs.Grid.{cells, room}
use Rattle.grid.specs.Lent.{lent}
use Rattle.records.specs.Forms.{one_sad, header_bytes}
use Rattle.records.specs.Records.{file_bytes}
use Rattle.gridfile.specs.Writing.{cell_records, write_refusal, written_of, write_answer, written_file}
use Rattle.gridfile.proofs.WriteLaws.{cells-even, Writes, writes, file_put}
use Rattle.gridfile.proofs.RefusedLaws.{numbered}
use Rattle.gridfile.proofs.write.write_grid.Goals.{After-extent_of, In_ok-extent, After-cells}
use Rattle.gridfile.proofs.write.write_grid.Goals as goal

-- the tests were of the grid's room and of the lent bytes
tested : (c : After-extent_of) → write_refusal c.args.width c.args.height c.room.result (length c.args.file.now) ≡ write_refusal c.args.width c.args.height (room (lent c.args.grid.now)) (length c.args.file.now)
tested c = ap (λ (n : ℕ). write_refusal c.args.width c.args.height n (length c.args.file.now)) c.room.ensures

none : (c : In_ok-extent) → write_refusal c.args.width c.args.height (room (lent c.args.grid.now)) (length c.args.file.now) ≡ 0
none c = sym (c.in_ok-extent.ensures.number ∙ tested (goal.at.In_ok-extent c).After-extent_of)

sound : (c : In_ok-extent) → Writes c.args.width c.args.height (lent c.args.grid.now) c.args.file.now
sound c = writes _ _ _ _ (none c)

-- as many cells as the frame has
all : (c : In_ok-extent) → c.in_ok-extent.extent.columns * c.in_ok-extent.extent.rows ≡ cells c.args.width c.args.height
unfolding cells
all c = ap₂ ◌*◌ c.in_ok-extent.ensures.sides.0 c.in_ok-extent.ensures.sides.1

pub returns-in_err-extent-clause-answer : goal.returns-in_err-extent-clause-answer
unfolding write_answer written_of
returns-in_err-extent-clause-answer c =
    let p = err_from_is_err_and c.from_residual.result c.from_residual.ensures.1 in
    let is = c.in_err-extent.ensures.number ∙ tested (goal.at.returns-in_err-extent-clause-answer c).After-extent_of in
    rw (p.1, p.2, ← is, ne_eqb _ 0 (numbered c.in_err-extent.field-0.0))

pub returns-in_err-extent-clause-file_after : goal.returns-in_err-extent-clause-file_after
unfolding written_file
returns-in_err-extent-clause-file_after c =
    let is = c.in_err-extent.ensures.number ∙ tested (goal.at.returns-in_err-extent-clause-file_after c).After-extent_of in
    rw (← is, ne_eqb _ 0 (numbered c.in_err-extent.field-0.0))

pub put_header-requires : goal.put_header-requires
unfolding file_bytes
put_header-requires c =
    let extent = c.in_ok-extent.extent in
    omega (arith, extent.wide, extent.high, sound (goal.at.put_header-requires c).In_ok-extent)

pub put_cells-requires : goal.put_cells-requires
unfolding cells room
put_cells-requires c =
    let at = (goal.at.put_cells-requires c).In_ok-extent in
    let s = sound at in
    rw (c.cells.ensures, all at) (omega (arith, s), omega (arith, s), cells-even c.args.height s.wide)

pub returns-clause-answer : goal.returns-clause-answer
unfolding write_answer written_of
returns-clause-answer c =
    let at = (goal.at.returns-clause-answer c).In_ok-extent in
    rw (none at, c.file_bytes.ensures, all at)

pub returns-clause-file_after : goal.returns-clause-file_after
unfolding written_file
returns-clause-file_after c =
    let at = (goal.at.returns-clause-file_after c).In_ok-extent in
    let extent = c.in_ok-extent.extent in
    let g = lent c.args.grid.now in
    let cells-put = c.put_cells.ensures ∙ ap (λ (n : ℕ). sets c.put_header.new.file header_bytes (cell_records one_sad g 0 n)) c.cells.ensures in
    rw (none at, ← c.in_ok-extent.ensures.sides.0, ← c.in_ok-extent.ensures.sides.1, ← all at) (file_put extent.columns extent.rows g c.args.file.now (rw (all at) (sound at).room) c.put_header.ensures cells-put)
