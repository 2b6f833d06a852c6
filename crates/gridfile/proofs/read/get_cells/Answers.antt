-- `gridfile::read::get_cells` meets its contract: after i turns the cells from i on are left. Assumes nothing.
use Rattle.std.proofs.Common.{◌≡◌, ℕ, ◌*◌, sym, ap, subst, subst₂, ◌∙◌, arith, add-one}
use Rattle.grid.specs.declared.cells.MEStats.{MEStats}
use Rattle.grid.specs.Grid.{Grid, room, with_cell}
use Rattle.grid.specs.Lent.{lent_mut}
use Rattle.records.specs.Records.{file_bytes}
use Rattle.gridfile.proofs.LeftLaws.{Left, left-all, left_there, left-next, left-none}
use Rattle.grid.proofs.LentLaws.{same-refl, same-trans}
use Rattle.gridfile.proofs.read.get_cells.Goals as goal

pub loop-i-init : goal.loop-i-init
loop-i-init c = record { left = left-all _ _ _ c.args.said.wide.0 _ c.requires.sound.1; same = same-refl c.args.grid.now }

pub get_cell-requires : goal.get_cell-requires
unfolding file_bytes
get_cell-requires c =
    left_there _ _ _ c.args.said.wide.0 _ _ _ (omega (arith, c.loop-i-test.true, c.cells-i-end.ensures)) c.loop-i.invariant.left

pub save_cell-requires : goal.save_cell-requires
unfolding room
save_cell-requires c = (omega arith, omega arith, omega arith)

pub loop-i-preserved : goal.loop-i-preserved
unfolding file_bytes
loop-i-preserved c =
    let at = c.loop-i in
    let file = c.args.file.now in
    let said = c.args.said in
    let g = lent_mut at.grid in
    let lent = lent_mut c.args.grid.now in
    let step = c.save_cell.ensures.saved ∙ ap (λ (m : MEStats). with_cell at.i m g) c.get_cell.ensures in
    let next = left-next file said.columns said.rows said.wide.0 lent at.i g (omega (arith, c.loop-i-test.true, c.cells-i-end.ensures)) at.invariant.left in
    record {
      left = subst₂ (λ (n : ℕ) (h : Grid). Left file said.columns said.rows lent n h) (sym (add-one at.i)) (sym step) next;
      same = same-trans at.invariant.same c.save_cell.ensures.same;
    }

pub returns-clause-kept : goal.returns-clause-kept
returns-clause-kept c =
    let at = c.loop-i in
    let file = c.args.file.now in
    let said = c.args.said in
    let lent = lent_mut c.args.grid.now in
    let done : at.i ≡ said.columns * said.rows = omega (arith, at.invariant.left.few, c.loop-i-test.false, c.cells-i-end.ensures) in
    left-none file said.columns said.rows said.wide.0 lent (lent_mut at.grid) (subst (λ (n : ℕ). Left file said.columns said.rows lent n (lent_mut at.grid)) done at.invariant.left)
