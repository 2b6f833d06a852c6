-- `searches::refinement::refine` meets its contract: a call that is not refused reads a cell of the grid.
use Rattle.std.proofs.Common.{◌≡◌, ◌<◌, length, sym, ap, ◌∙◌, arith}
use Rattle.std.proofs.lemmas.Result.{err_from_is_err_and}
use Rattle.motion.specs.declared.level.Level.{Level}
use Rattle.grid.specs.Grid.{cells, cell_at, stored_at, room}
use Rattle.grid.specs.Lent.{lent}
use Rattle.grid.proofs.CellLaws.{cell-inside}
use Rattle.refusal.specs.declared.kinds.Refusal.TheVariants as kind
use Rattle.refusal.specs.Refusals.{refuse, grid_ok}
use Rattle.refusal.proofs.KindsLaws.{err-then, ok-then}
use Rattle.refusal.proofs.RefusalLaws.{refuse-is, held, row-bounds}
use Rattle.single.specs.Found.{found_from}
use Rattle.single.proofs.AnswerLaws.{refused-is, done-is}
use Rattle.single.proofs.OpenedLaws.{Opened, opened}
use Rattle.searches.specs.Refinement.{window_answer, refine_answer}
use Rattle.searches.proofs.refinement.refine.Goals.{In_ok-p, After-grid_ok}
use Rattle.searches.proofs.refinement.refine.Goals as goal

-- the refusals 1 to 4 passed
ok : (c : In_ok-p) → let a = c.args in Opened a.call.width a.call.height a.call.level a.call.refined a.call.bx a.call.by (length a.cur.now) (length a.reference.now)
ok c = opened _ _ _ _ _ _ _ _ (sym c.in_ok-p.ensures.code)

-- the block's first cell is one of the frame's
cell : (c : In_ok-p) → let a = c.args.call in cell_at a.width a.bx a.by < cells a.width a.height
cell c =
    let a = c.args.call in
    let b = (ok c).block in
    cell-inside a.width a.height a.bx a.by b.across.inside b.down.inside

-- the test was of the grid's room
tested : (c : After-grid_ok) → let a = c.args in c.grid_ok.result ≡ grid_ok a.call.width a.call.height (room (lent a.grid.now))
tested c = c.grid_ok.ensures ∙ ap (grid_ok c.args.call.width c.args.call.height) c.room.ensures

pub returns-in_err-p : goal.returns-in_err-p
unfolding found_from refine_answer
returns-in_err-p c =
    let p = err_from_is_err_and c.from_residual.result c.from_residual.ensures.1 in
    let code = rw c.requires at c.in_err-p.ensures.code in
    rw (p.1, p.2) (refused-is _ _ _ (err-then _ _ _ code))

pub grid_ok-requires : goal.grid_ok-requires
grid_ok-requires c =
    let b = (ok (goal.at.grid_ok-requires c).In_ok-p).block in
    (b.wide.most, b.high.most)

pub returns-then-not-grid_ok : goal.returns-then-not-grid_ok
unfolding found_from refine_answer
returns-then-not-grid_ok c =
    let code = rw c.requires at c.in_ok-p.ensures.code in
    let is = tested (goal.at.returns-then-not-grid_ok c).After-grid_ok in
    refused-is kind.Grid _ _ (ok-then _ _ _ code (sym (refuse-is 5 _ (sym is ∙ c.if-not-grid_ok.true))))

pub cell_at-requires : goal.cell_at-requires
cell_at-requires c =
    let b = (ok (goal.at.cell_at-requires c).In_ok-p).block in
    omega (arith, b.wide.most, b.high.most, b.across.inside, b.down.inside)

pub stored_at-stored-requires : goal.stored_at-stored-requires
stored_at-stored-requires c =
    let at = goal.at.stored_at-stored-requires c in
    let a = c.args in
    let held = held a.call.width a.call.height (lent a.grid.now) (sym (tested at.After-grid_ok) ∙ c.if-not-grid_ok.false) in
    (omega (arith, c.cell_at.ensures, cell at.In_ok-p, held.rows), omega (arith, c.cell_at.ensures, cell at.In_ok-p, held.cols))

pub refine_block-requires : goal.refine_block-requires
refine_block-requires c =
    let shift = ap (λ (l : Level). l.ssdec) c.level_of.ensures in
    omega (arith, shift, (row-bounds c.args.call.level).0)

pub returns : goal.returns
unfolding refine_answer refuse
returns c =
    let a = c.args in
    let opened = c.in_ok-p.ensures.opened in
    let code = rw c.requires at c.in_ok-p.ensures.code in
    let block = rw c.requires at opened.0 in
    let is = tested (goal.at.returns c).After-grid_ok in
    let stored = c.stored_at-stored.ensures ∙ ap (stored_at a.grid.now.rows.now a.grid.now.cols.now) c.cell_at.ensures in
    let shift = ap (λ (l : Level). l.ssdec) c.level_of.ensures in
    c.refine_block.ensures
    ∙ (λ i. window_answer (block i) (opened.1 i) (opened.2 i) (stored i) (shift i))
    ∙ done-is _ _ (ok-then _ _ _ code (sym (ap (refuse 5) (sym is ∙ c.if-not-grid_ok.false))))
