-- `superblock::step::estimate_sb_motion` meets its contract: before turn k the grid is that after the first k blocks.
use Rattle.std.proofs.Common.{◌≡◌, ℕ, ◌≤◌, ◌<◌, sym, ap, subst, ◌∙◌, arith}
use Rattle.motion.specs.declared.level.Level.{Level}
use Rattle.motion.specs.Limits.{superblock_side}
use Rattle.motion.specs.Frame.{Starts}
use Rattle.motion.specs.Level.{level_of}
use Rattle.grid.specs.declared.cells.MEStats.{MEStats}
use Rattle.grid.specs.Grid.{Grid, Held}
use Rattle.grid.specs.Lent.{lent_mut, previous_lent}
use Rattle.estimate.specs.Block.{estimate_motion}
use Rattle.superblock.specs.Step.{block_count, block_x, block_y, worked, estimates}
use Rattle.superblock.proofs.StepLaws.{AsLong, held-long, same-none, same-more, worked-none, worked-turn, worked-long}
use Rattle.estimate.specs.Lent.{inputs_lent}
use Rattle.superblock.proofs.GeometryLaws.{Tabled, own-tabled, tabled_bounds, count_most, placed_at}
use Rattle.superblock.proofs.step.estimate_sb_motion.Goals.{After-level_of, At-loop-k, After-count-k-end, In-loop-k, After-x-bx, After-y-by}
use Rattle.superblock.proofs.step.estimate_sb_motion.Goals as goal

-- what a block's turn saves
abbrev result : At-loop-k → ℕ → ℕ → Grid → MEStats
result c = estimate_motion (inputs_lent c.args.inputs.now) (previous_lent c.args.prev)

abbrev first : At-loop-k → Grid
first c = lent_mut c.args.grid.now

long_now : (c : At-loop-k) → AsLong (first c) (lent_mut c.loop-k.grid)
long_now c =
    let i = c.args.inputs.now in
    subst (AsLong (first c)) (sym c.loop-k.invariant.estimated) (worked-long (result c) i.width i.height (level_of i.level).mv_size c.args.superblock c.loop-k.k (first c))

held-now : (c : At-loop-k) → Held c.args.inputs.now.width c.args.inputs.now.height (lent_mut c.loop-k.grid)
held-now c = held-long (long_now c) c.requires.held

-- how many blocks there are
blocks_are : (c : After-count-k-end) → c.count-k-end.result ≡ block_count c.args.inputs.now.width c.args.inputs.now.height (level_of c.args.inputs.now.level).mv_size c.args.superblock
blocks_are c =
    c.count-k-end.ensures ∙ ap (λ (l : Level). block_count c.args.inputs.now.width c.args.inputs.now.height l.mv_size c.args.superblock) c.level_of.ensures

-- in a turn: the number of the block, and its place
turn_below : (c : In-loop-k) → c.loop-k.k < block_count c.args.inputs.now.width c.args.inputs.now.height (level_of c.args.inputs.now.level).mv_size c.args.superblock
turn_below c = omega (arith, c.loop-k-test.true, blocks_are (goal.at.In-loop-k c).After-count-k-end)

column_is : (c : After-x-bx) → c.x-bx.result ≡ block_x c.args.inputs.now.width (level_of c.args.inputs.now.level).mv_size c.args.superblock c.loop-k.k
column_is c = c.x-bx.ensures ∙ ap (λ (l : Level). block_x c.args.inputs.now.width l.mv_size c.args.superblock c.loop-k.k) c.level_of.ensures

row_is : (c : After-y-by) → c.y-by.result ≡ block_y c.args.inputs.now.width (level_of c.args.inputs.now.level).mv_size c.args.superblock c.loop-k.k
row_is c = c.y-by.ensures ∙ ap (λ (l : Level). block_y c.args.inputs.now.width l.mv_size c.args.superblock c.loop-k.k) c.level_of.ensures

starts_now : (c : After-y-by) → Starts c.args.inputs.now.width (level_of c.args.inputs.now.level).mv_size c.x-bx.result × Starts c.args.inputs.now.height (level_of c.args.inputs.now.level).mv_size c.y-by.result
starts_now c =
    let i = c.args.inputs.now in
    placed_at (own-tabled i.level) i.wide i.high c.requires.inside c.loop-k.k (turn_below (goal.at.After-y-by c).In-loop-k) (column_is (goal.at.After-y-by c).After-x-bx) (row_is c)

-- the size is one of the table
size_bounds : (c : After-level_of) → (0 < c.level_of.result.mv_size) × (c.level_of.result.mv_size ≤ superblock_side)
size_bounds c = tabled_bounds (subst (λ (l : Level). Tabled l.mv_size) (sym c.level_of.ensures) (own-tabled c.args.inputs.now.level))

pub invariant_of-blocks : goal.invariant_of-blocks
invariant_of-blocks c =
    let bounds = size_bounds c in
    record { wide = c.args.inputs.now.wide; high = c.args.inputs.now.high; some = bounds.0; most = bounds.1; inside = c.requires.inside }

pub loop-k-init : goal.loop-k-init
loop-k-init c =
    let i = c.args.inputs.now in
    record {
      estimated = sym (worked-none (estimate_motion (inputs_lent i) (previous_lent c.args.prev)) i.width i.height (level_of i.level).mv_size c.args.superblock (lent_mut c.args.grid.now));
      same = same-none c.args.grid.now;
    }

pub y-by-requires : goal.y-by-requires
y-by-requires c =
    let i = c.args.inputs.now in
    omega (arith, (turn_below (goal.at.y-by-requires c).In-loop-k), count_most (own-tabled i.level) i.wide i.high c.requires.inside)

pub estimate_motion-stats-requires-clause-starts : goal.estimate_motion-stats-requires-clause-starts
estimate_motion-stats-requires-clause-starts c = starts_now (goal.at.estimate_motion-stats-requires-clause-starts c).After-y-by

pub estimate_motion-stats-requires-clause-held : goal.estimate_motion-stats-requires-clause-held
estimate_motion-stats-requires-clause-held c =
    subst (Held c.args.inputs.now.width c.args.inputs.now.height) (sym c.read.ensures) (held-now (goal.at.estimate_motion-stats-requires-clause-held c).At-loop-k)

pub save_me_stats-requires : goal.save_me_stats-requires
save_me_stats-requires c =
    let i = c.args.inputs.now in
    let starts = starts_now (goal.at.save_me_stats-requires c).After-y-by in
    let size = size_bounds (goal.at.save_me_stats-requires c).After-level_of in
    record {
      inside = (i.wide.most, i.high.most, omega (arith, size.1), starts.0.inside, starts.1.inside);
      held = held-now (goal.at.save_me_stats-requires c).At-loop-k;
    }

pub loop-k-preserved : goal.loop-k-preserved
loop-k-preserved c =
    let i = c.args.inputs.now in
    let size = ap (λ (l : Level). l.mv_size) c.level_of.ensures in
    let column = column_is (goal.at.loop-k-preserved c).After-x-bx in
    let row = row_is (goal.at.loop-k-preserved c).After-y-by in
    let stats = c.estimate_motion-stats.ensures.estimated ∙ ap (λ (g : Grid). estimate_motion (inputs_lent i) (previous_lent c.args.prev) c.x-bx.result c.y-by.result g) c.read.ensures in
    record {
      estimated = worked-turn (result (goal.at.loop-k-preserved c).At-loop-k) i.width i.height (level_of i.level).mv_size c.args.superblock c.loop-k.k (lent_mut c.args.grid.now) size column row c.loop-k.invariant.estimated stats c.save_me_stats.ensures.saved;
      same = same-more c.loop-k.invariant.same c.save_me_stats.ensures.same;
    }

pub returns-clause-estimated : goal.returns-clause-estimated
unfolding estimates
returns-clause-estimated c =
    let i = c.args.inputs.now in
    let done : c.loop-k.k ≡ block_count c.args.inputs.now.width c.args.inputs.now.height (level_of c.args.inputs.now.level).mv_size c.args.superblock = omega (arith, c.loop-k-test.false, blocks_are (goal.at.returns-clause-estimated c).After-count-k-end) in
    c.loop-k.invariant.estimated ∙ ap (λ (k : ℕ). worked (result (goal.at.returns-clause-estimated c).At-loop-k) i.width i.height (level_of i.level).mv_size c.args.superblock k (lent_mut c.args.grid.now)) done
