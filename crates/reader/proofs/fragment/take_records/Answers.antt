-- `reader::fragment::take_records` meets its contract: after i turns the first i records have been taken in. Assumes nothing.
use Rattle.std.proofs.Common.{◌≡◌, ◌+◌, ◌*◌, ◌≤◌, ◌<◌, true, length, sym, ap, subst, ◌∙◌, arith}
use Rattle.grid.specs.declared.cells.MEStats.{MEStats}
use Rattle.grid.specs.Grid.{Grid, room, with_cell}
use Rattle.grid.specs.Lent.{lent_mut}
use Rattle.records.specs.Forms.{cell_bytes}
use Rattle.gridfile.specs.Reading.{marked}
use Rattle.grid.proofs.LentLaws.{same-refl, same-trans}
use Rattle.gridfile.proofs.MarkLaws.{marked_at}
use Rattle.reader.proofs.WholeLaws.{Gone, gone_none, gone_more}
use Rattle.reader.proofs.fragment.take_records.Goals.{In-loop-i}
use Rattle.reader.proofs.fragment.take_records.Goals as goal

-- a record that is whole, and a cell that the header said
module _ (c : In-loop-i) where
  there : cell_bytes * c.loop-i.i + cell_bytes ≤ length c.args.fragment.now
  there = omega (arith, c.min-most.ensures, c.loop-i-test.true)

  more : c.args.reader.cells + c.loop-i.i < c.args.reader.columns * c.args.reader.rows
  more = omega (arith, c.min-most.ensures, c.saturating_sub-left.ensures, c.count.ensures, c.loop-i-test.true)

pub loop-i-init : goal.loop-i-init
loop-i-init c = record { gone = gone_none _ _ _ _ _; same = same-refl c.args.grid.now }

pub save_cell-requires : goal.save_cell-requires
unfolding room
save_cell-requires c =
    let place = more (goal.at.save_cell-requires c).In-loop-i in
    (omega (arith, place), omega (arith, place), omega (arith, place))

pub loop-i-preserved : goal.loop-i-preserved
unfolding marked
loop-i-preserved c =
    let at = (goal.at.loop-i-preserved c).In-loop-i in
    let r = c.args.reader in
    let fragment = c.args.fragment.now in
    let i = c.loop-i.i in
    let g = lent_mut c.loop-i.grid in
    let ok : marked_at fragment (cell_bytes * i) ≡ true = sym c.if-not-is_marked.ensures in
    let step = c.save_cell.ensures.saved ∙ ap (λ (m : MEStats). with_cell (r.cells + i) m g) c.get_cell.ensures in
    let next = gone_more r.columns r.rows r.cells fragment (lent_mut c.args.grid.now) i g c.loop-i.invariant.gone c.requires.said.0 (more at) (there at) ok in
    record {
      gone = subst (λ (h : Grid). Gone r.columns r.rows r.cells fragment (lent_mut c.args.grid.now) (i + 1) h) (sym step) next;
      same = same-trans c.loop-i.invariant.same c.save_cell.ensures.same;
    }
