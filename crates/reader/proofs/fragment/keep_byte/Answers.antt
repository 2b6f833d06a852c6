-- `reader::fragment::keep_byte` meets its contract: only the last byte of a cell's record completes it. Assumes nothing.
use borrow.Author.Rules.{rules}
use Rattle.std.proofs.Common.{◌≡◌, ◌*◌, ◌<◌, length, sym, ap, subst, ◌∙◌, arith}
use Rattle.grid.specs.declared.cells.MEStats.{MEStats}
use Rattle.grid.specs.Grid.{with_cell, room}
use Rattle.grid.specs.Lent.{lent_mut}
use Rattle.gridfile.specs.Reading.{begun}
use Rattle.held.specs.Held.{part_bytes}
use Rattle.held.proofs.OpenLaws.{Open, opened}
use Rattle.reader.specs.Calls.{Fits}
use Rattle.reader.proofs.AnswerLaws.{some-columns}
use Rattle.reader.proofs.KeepLaws.{keeps_refused, keeps_fewer, keeps_over, keeps_cell}
use Rattle.reader.proofs.fragment.keep_byte.Goals.{After-count, Else-count-place, then-reader-ne0-via-then-reader-ne0, then-reader-ne0-via-else-reader-ne0+then-reader-ne-CELL_LAST}
use Rattle.reader.proofs.fragment.keep_byte.Goals as goal

open_here : (c : After-count) → Open c.args.reader
open_here c = opened c.args.reader c.requires.0 c.if-reader-ne0.false

-- the grid holds all cells of the header
module _ (c : Else-count-place) where
  sixteen : length c.args.reader.part ≡ part_bytes
  sixteen = search rules

  more : c.args.reader.cells < c.args.reader.columns * c.args.reader.rows
  more = omega (arith, c.count.ensures, c.if-count-place.false)

  wide : 0 < c.args.reader.columns
  wide = some-columns c.args.reader.columns c.args.reader.rows c.args.reader.cells more

  placed : c.args.reader.cells < room (lent_mut c.args.grid.now)
  unfolding begun
  placed =
      let holds = subst (Fits (room (lent_mut c.args.grid.now))) (open_here (goal.at.Else-count-place c).After-count).state c.requires.1 (λ i. 0) wide in
      omega (arith, more, holds)

pub returns-then-reader-ne0-clause-kept : goal.returns-then-reader-ne0-clause-kept
returns-then-reader-ne0-clause-kept c =
    elim c.then-reader-ne0.branch [
      | then-reader-ne0-via-then-reader-ne0 w ↦ sym (keeps_refused _ c.args.reader c.args.byte _ w.if-reader-ne0.true)
      | then-reader-ne0-via-else-reader-ne0+then-reader-ne-CELL_LAST w ↦ sym (keeps_fewer _ c.args.reader c.args.byte _ (opened c.args.reader c.requires.0 w.if-reader-ne0.false) w.if-reader-ne-CELL_LAST.true)
    ]

pub count-requires : goal.count-requires
count-requires c =
    let here = opened c.args.reader c.requires.0 c.if-reader-ne0.false in (here.wide, here.high)

pub returns-then-count-place-clause-kept : goal.returns-then-count-place-clause-kept
returns-then-count-place-clause-kept c =
    sym (keeps_over _ c.args.reader c.args.byte _ (open_here (goal.at.returns-then-count-place-clause-kept c).After-count) (omega (arith, c.count.ensures, c.if-count-place.true)))

pub save_cell-requires : goal.save_cell-requires
unfolding room
save_cell-requires c =
    let fits = placed (goal.at.save_cell-requires c).Else-count-place in
    (omega (arith, fits), omega (arith, fits), omega (arith, fits))

pub returns-clause-kept : goal.returns-clause-kept
returns-clause-kept c =
    let at = (goal.at.returns-clause-kept c).Else-count-place in
    let g = lent_mut c.args.grid.now in
    let r = c.args.reader in
    c.save_cell.ensures.saved ∙ ap (λ (m : MEStats). with_cell r.cells m g) c.get_cell.ensures
    ∙ sym (keeps_cell (room g) r (open_here (goal.at.returns-clause-kept c).After-count) c.args.byte g (wide at) (more at) c.if-reader-ne-CELL_LAST.false (sixteen at))
