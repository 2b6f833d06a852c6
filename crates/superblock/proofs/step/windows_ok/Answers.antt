-- `superblock::step::windows_ok` meets its contract: before turn k no window of the first k is empty.
use Rattle.std.proofs.Common.{◌≡◌, ℕ, ◌≤◌, ◌<◌, cond, sym, ap, ap₂, subst, ◌∙◌, arith}
use lib.Dec.{eqb}
use Rattle.ground.specs.Every.{all_below}
use Rattle.ground.proofs.EveryLaws.{below_none, below_more, below_fails}
use Rattle.motion.specs.declared.level.Level.{Level}
use Rattle.motion.specs.Limits.{superblock_side}
use Rattle.motion.specs.Frame.{Starts}
use Rattle.motion.specs.Level.{level_of}
use Rattle.points.specs.Window.{window_ok}
use Rattle.estimate.specs.Block.{window_at}
use Rattle.estimate.proofs.BlockFacts.{leveled-of}
use Rattle.superblock.specs.Step.{block_count, block_x, block_y, refined_count, windows_ok}
use Rattle.superblock.proofs.GeometryLaws.{Tabled, refined_tabled, tabled_bounds, count_most, placed_at}
use Rattle.superblock.proofs.StepLaws.{passes, refined_below}
use Rattle.superblock.proofs.step.windows_ok.Goals.{After-level_of, After-refined_count-k-end, In-loop-k, After-x-bx, After-y-by, After-ok}
use Rattle.superblock.proofs.step.windows_ok.Goals as goal

-- how many refinements there are
refinements_are : (c : After-refined_count-k-end) → c.refined_count-k-end.result ≡ refined_count c.args.inputs.now.width c.args.inputs.now.height c.args.inputs.now.level c.args.superblock
unfolding refined_count
refinements_are c =
    let i = c.args.inputs.now in
    c.refined_count-k-end.ensures ∙ ap (λ (l : Level). cond (eqb i.level 4) 0 (block_count i.width i.height l.refined c.args.superblock)) c.level_of.ensures

-- in a turn: the number of the block, and its place
turn_below : (c : In-loop-k) → c.loop-k.k < refined_count c.args.inputs.now.width c.args.inputs.now.height c.args.inputs.now.level c.args.superblock
turn_below c = omega (arith, c.loop-k-test.true, refinements_are (goal.at.In-loop-k c).After-refined_count-k-end)

column_is : (c : After-x-bx) → c.x-bx.result ≡ block_x c.args.inputs.now.width (level_of c.args.inputs.now.level).refined c.args.superblock c.loop-k.k
column_is c = c.x-bx.ensures ∙ ap (λ (l : Level). block_x c.args.inputs.now.width l.refined c.args.superblock c.loop-k.k) c.level_of.ensures

row_is : (c : After-y-by) → c.y-by.result ≡ block_y c.args.inputs.now.width (level_of c.args.inputs.now.level).refined c.args.superblock c.loop-k.k
row_is c = c.y-by.ensures ∙ ap (λ (l : Level). block_y c.args.inputs.now.width l.refined c.args.superblock c.loop-k.k) c.level_of.ensures

starts_now : (c : After-y-by) → Starts c.args.inputs.now.width (level_of c.args.inputs.now.level).refined c.x-bx.result × Starts c.args.inputs.now.height (level_of c.args.inputs.now.level).refined c.y-by.result
starts_now c =
    let i = c.args.inputs.now in
    placed_at (refined_tabled i.level) i.wide i.high c.requires.inside c.loop-k.k (refined_below i.width i.height i.level c.args.superblock (turn_below (goal.at.After-y-by c).In-loop-k)) (column_is (goal.at.After-y-by c).After-x-bx) (row_is c)

-- the answer of the turn's test
test_is : (c : After-ok) → c.ok.result ≡ passes c.args.inputs.now.width c.args.inputs.now.height c.args.inputs.now.level c.args.superblock c.args.grid.now.rows.now c.args.grid.now.cols.now c.loop-k.k
test_is c =
    let i = c.args.inputs.now in
    let window = c.window_at.ensures ∙ ap₂ (λ (x y : ℕ). window_at i.width i.height i.level x y c.args.grid.now.rows.now c.args.grid.now.cols.now) (column_is (goal.at.After-ok c).After-x-bx) (row_is (goal.at.After-ok c).After-y-by) in
    c.ok.ensures ∙ ap window_ok window

-- the size is one of the table
size_bounds : (c : After-level_of) → (0 < c.level_of.result.refined) × (c.level_of.result.refined ≤ superblock_side)
size_bounds c = tabled_bounds (subst (λ (l : Level). Tabled l.refined) (sym c.level_of.ensures) (refined_tabled c.args.inputs.now.level))

pub invariant_of-blocks : goal.invariant_of-blocks
invariant_of-blocks c =
    let bounds = size_bounds c in
    record { wide = c.args.inputs.now.wide; high = c.args.inputs.now.high; some = bounds.0; most = bounds.1; inside = c.requires.inside }

pub loop-k-init : goal.loop-k-init
loop-k-init c =
    let i = c.args.inputs.now in
    below_none (passes i.width i.height i.level c.args.superblock c.args.grid.now.rows.now c.args.grid.now.cols.now)

pub y-by-requires : goal.y-by-requires
y-by-requires c =
    let i = c.args.inputs.now in
    let few = refined_below i.width i.height i.level c.args.superblock (turn_below (goal.at.y-by-requires c).In-loop-k) in
    omega (arith, few, count_most (refined_tabled i.level) i.wide i.high c.requires.inside)

pub window_at-requires-clause-side : goal.window_at-requires-clause-side
window_at-requires-clause-side c =
    let i = c.args.inputs.now in
    (i.wide, i.high, leveled-of i.level i.leveled)

pub window_at-requires-clause-starts : goal.window_at-requires-clause-starts
window_at-requires-clause-starts c = starts_now (goal.at.window_at-requires-clause-starts c).After-y-by

pub returns-then-not-ok : goal.returns-then-not-ok
unfolding windows_ok
returns-then-not-ok c =
    let i = c.args.inputs.now in
    let test = passes i.width i.height i.level c.args.superblock c.args.grid.now.rows.now c.args.grid.now.cols.now in
    sym (below_fails (refined_count i.width i.height i.level c.args.superblock) test c.loop-k.k (turn_below (goal.at.returns-then-not-ok c).In-loop-k) (sym (test_is (goal.at.returns-then-not-ok c).After-ok) ∙ c.if-not-ok.true))

pub loop-k-preserved : goal.loop-k-preserved
loop-k-preserved c =
    let i = c.args.inputs.now in
    let test = passes i.width i.height i.level c.args.superblock c.args.grid.now.rows.now c.args.grid.now.cols.now in
    below_more c.loop-k.k test c.loop-k.invariant (sym (test_is (goal.at.loop-k-preserved c).After-ok) ∙ c.if-not-ok.false)

pub returns : goal.returns
unfolding windows_ok
returns c =
    let i = c.args.inputs.now in
    let test = passes i.width i.height i.level c.args.superblock c.args.grid.now.rows.now c.args.grid.now.cols.now in
    let done : refined_count i.width i.height i.level c.args.superblock ≡ c.loop-k.k = omega (arith, refinements_are (goal.at.returns c).After-refined_count-k-end) in
    sym (ap (λ (m : ℕ). all_below m test) done ∙ c.loop-k.invariant)
