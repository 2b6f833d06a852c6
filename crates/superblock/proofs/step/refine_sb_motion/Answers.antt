-- `superblock::step::refine_sb_motion` meets its contract: before turn k the grid is that after the first k blocks.
use Rattle.std.proofs.Common.{◌≡◌, true, ℕ, ◌≤◌, ◌<◌, cond, length, sym, ap, subst, ◌∙◌, arith}
use lib.Dec.{eqb}
use Rattle.motion.specs.declared.level.Level.{Level}
use Rattle.motion.specs.Limits.{superblock_side}
use Rattle.motion.specs.Frame.{Starts}
use Rattle.motion.specs.Level.{level_of}
use Rattle.grid.specs.declared.cells.MEStats.{MEStats}
use Rattle.grid.specs.Grid.{Grid, Held, cells}
use Rattle.grid.specs.Lent.{lent_mut}
use Rattle.points.specs.declared.window.Window.{Window}
use Rattle.points.specs.Window.{window_ok}
use Rattle.estimate.specs.Block.{window_at, refine_motion}
use Rattle.superblock.specs.Step.{block_count, block_x, block_y, worked, refined_count, refinements}
use Rattle.superblock.proofs.StepLaws.{AsLong, held-long, same-none, same-more, worked-none, worked-turn, worked-long, refined_below, window_stays, window_passes}
use Rattle.estimate.specs.Lent.{inputs_lent}
use Rattle.superblock.proofs.GeometryLaws.{Tabled, refined_tabled, tabled_bounds, count_most, placed_at}
use Rattle.superblock.proofs.step.refine_sb_motion.Goals.{After-level_of, At-loop-k, After-refined_count-k-end, In-loop-k, After-x-bx, After-y-by}
use Rattle.superblock.proofs.step.refine_sb_motion.Goals as goal

-- what a block's turn saves
abbrev result : At-loop-k → ℕ → ℕ → Grid → MEStats
result c = λ (bx by : ℕ) (g : Grid). refine_motion (inputs_lent c.args.inputs.now) bx by g.rows g.cols

abbrev first : At-loop-k → Grid
first c = lent_mut c.args.grid.now

long_now : (c : At-loop-k) → AsLong (first c) (lent_mut c.loop-k.grid)
long_now c =
    let i = c.args.inputs.now in
    subst (AsLong (first c)) (sym c.loop-k.invariant.refined) (worked-long (result c) i.width i.height (level_of i.level).refined c.args.superblock c.loop-k.k (first c))

held-now : (c : At-loop-k) → Held c.args.inputs.now.width c.args.inputs.now.height (lent_mut c.loop-k.grid)
held-now c = held-long (long_now c) c.requires.held

-- how many refinements there are
refinements_are : (c : After-refined_count-k-end) → c.refined_count-k-end.result ≡ refined_count c.args.inputs.now.width c.args.inputs.now.height c.args.inputs.now.level c.args.superblock
unfolding refined_count
refinements_are c =
    let i = c.args.inputs.now in
    c.refined_count-k-end.ensures ∙ ap (λ (l : Level). cond (eqb i.level 4) 0 (block_count i.width i.height l.refined c.args.superblock)) c.level_of.ensures

-- in a turn: the number of the block, and its place
turn_below : (c : In-loop-k) → c.loop-k.k < refined_count c.args.inputs.now.width c.args.inputs.now.height c.args.inputs.now.level c.args.superblock
turn_below c = omega (arith, c.loop-k-test.true, refinements_are (goal.at.In-loop-k c).After-refined_count-k-end)

column_is : (c : After-x-bx) → c.x-bx.result ≡ block_x c.args.inputs.now.width (level_of c.args.inputs.now.level).refined c.args.superblock c.loop-k.k
column_is c = c.x-bx.ensures ∙ ap (λ (l : Level). block_x c.args.inputs.now.width l.refined c.args.superblock c.loop-k.k) c.level_of.ensures

row_is : (c : After-y-by) → c.y-by.result ≡ block_y c.args.inputs.now.width (level_of c.args.inputs.now.level).refined c.args.superblock c.loop-k.k
row_is c = c.y-by.ensures ∙ ap (λ (l : Level). block_y c.args.inputs.now.width l.refined c.args.superblock c.loop-k.k) c.level_of.ensures

starts_now : (c : After-y-by) → Starts c.args.inputs.now.width (level_of c.args.inputs.now.level).refined c.x-bx.result × Starts c.args.inputs.now.height (level_of c.args.inputs.now.level).refined c.y-by.result
starts_now c =
    let i = c.args.inputs.now in
    placed_at (refined_tabled i.level) i.wide i.high c.requires.inside c.loop-k.k (refined_below i.width i.height i.level c.args.superblock (turn_below (goal.at.After-y-by c).In-loop-k)) (column_is (goal.at.After-y-by c).After-x-bx) (row_is c)

-- in a turn: no cell of the block is of a block before it, so that its window is that of the grid before the step
window_now : (c : In-loop-k) → window_ok (window_at c.args.inputs.now.width c.args.inputs.now.height c.args.inputs.now.level (block_x c.args.inputs.now.width (level_of c.args.inputs.now.level).refined c.args.superblock c.loop-k.k) (block_y c.args.inputs.now.width (level_of c.args.inputs.now.level).refined c.args.superblock c.loop-k.k) (lent_mut c.loop-k.grid).rows (lent_mut c.loop-k.grid).cols) ≡ true
window_now c =
    let i = c.args.inputs.now in
    let k = c.loop-k.k in
    let at = (goal.at.In-loop-k c).At-loop-k in
    let window : Grid → Window = λ g. window_at i.width i.height i.level (block_x i.width (level_of i.level).refined c.args.superblock k) (block_y i.width (level_of i.level).refined c.args.superblock k) g.rows g.cols in
    let stays = window_stays i.level i.wide i.high c.requires.inside (result at) k k (omega arith) (turn_below c) (first at) in
    let passes = window_passes i.width i.height i.level c.args.superblock c.args.grid.now.rows.now c.args.grid.now.cols.now c.requires.some_windows k (turn_below c) in
    ap window_ok (ap window c.loop-k.invariant.refined ∙ stays) ∙ passes

-- the size is one of the table
size_bounds : (c : After-level_of) → (0 < c.level_of.result.refined) × (c.level_of.result.refined ≤ superblock_side)
size_bounds c = tabled_bounds (subst (λ (l : Level). Tabled l.refined) (sym c.level_of.ensures) (refined_tabled c.args.inputs.now.level))

pub invariant_of-blocks : goal.invariant_of-blocks
invariant_of-blocks c =
    let bounds = size_bounds c in
    record { wide = c.args.inputs.now.wide; high = c.args.inputs.now.high; some = bounds.0; most = bounds.1; inside = c.requires.inside }

pub loop-k-init : goal.loop-k-init
loop-k-init c =
    let i = c.args.inputs.now in
    record {
      refined = sym (worked-none (λ (bx by : ℕ) (g : Grid). refine_motion (inputs_lent i) bx by g.rows g.cols) i.width i.height (level_of i.level).refined c.args.superblock (lent_mut c.args.grid.now));
      same = same-none c.args.grid.now;
    }

pub y-by-requires : goal.y-by-requires
y-by-requires c =
    let i = c.args.inputs.now in
    omega (arith, (refined_below i.width i.height i.level c.args.superblock (turn_below (goal.at.y-by-requires c).In-loop-k)), count_most (refined_tabled i.level) i.wide i.high c.requires.inside)

pub refine_motion-stats-requires-clause-starts : goal.refine_motion-stats-requires-clause-starts
refine_motion-stats-requires-clause-starts c = starts_now (goal.at.refine_motion-stats-requires-clause-starts c).After-y-by

pub refine_motion-stats-requires-clause-in_bounds : goal.refine_motion-stats-requires-clause-in_bounds
refine_motion-stats-requires-clause-in_bounds c =
    let held = held-now (goal.at.refine_motion-stats-requires-clause-in_bounds c).At-loop-k in
    subst (λ (g : Grid). (cells c.args.inputs.now.width c.args.inputs.now.height ≤ length g.rows) × (cells c.args.inputs.now.width c.args.inputs.now.height ≤ length g.cols)) (sym c.read.ensures) (held.rows, held.cols)

pub refine_motion-stats-requires-clause-some_window : goal.refine_motion-stats-requires-clause-some_window
refine_motion-stats-requires-clause-some_window c =
    let i = c.args.inputs.now in
    let here = goal.at.refine_motion-stats-requires-clause-some_window c in
    (λ j. window_ok (window_at i.width i.height i.level (column_is here.After-x-bx j) (row_is here.After-y-by j) (c.read.ensures j).rows (c.read.ensures j).cols))
    ∙ window_now here.In-loop-k

pub save_me_stats-requires : goal.save_me_stats-requires
save_me_stats-requires c =
    let i = c.args.inputs.now in
    let starts = starts_now (goal.at.save_me_stats-requires c).After-y-by in
    let size = size_bounds (goal.at.save_me_stats-requires c).After-level_of in
    record {
      inside = (i.wide.most, i.high.most, omega (arith, size.1), starts.0.inside, starts.1.inside);
      held = held-now (goal.at.save_me_stats-requires c).At-loop-k;
    }

pub loop-k-preserved : goal.loop-k-preserved
loop-k-preserved c =
    let i = c.args.inputs.now in
    let size = ap (λ (l : Level). l.refined) c.level_of.ensures in
    let column = column_is (goal.at.loop-k-preserved c).After-x-bx in
    let row = row_is (goal.at.loop-k-preserved c).After-y-by in
    let stats = c.refine_motion-stats.ensures ∙ ap (λ (g : Grid). refine_motion (inputs_lent i) c.x-bx.result c.y-by.result g.rows g.cols) c.read.ensures in
    record {
      refined = worked-turn (result (goal.at.loop-k-preserved c).At-loop-k) i.width i.height (level_of i.level).refined c.args.superblock c.loop-k.k (lent_mut c.args.grid.now) size column row c.loop-k.invariant.refined stats c.save_me_stats.ensures.saved;
      same = same-more c.loop-k.invariant.same c.save_me_stats.ensures.same;
    }

pub returns-clause-refined : goal.returns-clause-refined
unfolding refinements
returns-clause-refined c =
    let i = c.args.inputs.now in
    let done : c.loop-k.k ≡ refined_count c.args.inputs.now.width c.args.inputs.now.height c.args.inputs.now.level c.args.superblock = omega (arith, c.loop-k-test.false, refinements_are (goal.at.returns-clause-refined c).After-refined_count-k-end) in
    c.loop-k.invariant.refined ∙ ap (λ (k : ℕ). worked (result (goal.at.returns-clause-refined c).At-loop-k) i.width i.height (level_of i.level).refined c.args.superblock k (lent_mut c.args.grid.now)) done
