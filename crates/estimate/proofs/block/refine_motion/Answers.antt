-- `estimate::block::refine_motion` meets its contract: a window that is not empty is searched, 16 bits hold its offsets, and what is found can be saved.
use Rattle.std.proofs.Common.{◌≡◌, true, ℕ, ◌<◌, sym, ap, subst, ◌∙◌, Fits, w32, arith, rules}
use borrow.Author.Tests.{ltb-true}
use lib.Dec.{ltb}
use Rattle.ground.proofs.TestLaws.{both}
use Rattle.motion.specs.declared.level.Level.{Level}
use Rattle.motion.specs.declared.block.Block.{Block}
use Rattle.motion.specs.declared.range.MvRange.{MvRange}
use Rattle.motion.specs.declared.vector.MotionVector.{MotionVector}
use Rattle.motion.specs.Vector.{FitsV}
use Rattle.motion.specs.Level.{level_of}
use Rattle.motion.specs.Frame.{Sized}
use Rattle.motion.proofs.BlockLaws.{Straddles}
use Rattle.sad.specs.Cost.{rd_at}
use Rattle.points.specs.declared.window.Window.{Window}
use Rattle.points.specs.Window.{refine_window, window_ok}
use Rattle.points.specs.Asked.{Spanned}
use Rattle.points.proofs.SpanLaws.{refine-spanned}
use Rattle.search.specs.declared.result.MotionSearchResult.{MotionSearchResult}
use Rattle.search.specs.Full.{full_search, refine}
use Rattle.search.proofs.FoundLaws.{Settled, refine-settled}
use Rattle.estimate.specs.Inputs.{Inputs}
use Rattle.estimate.specs.Lent.{inputs_lent}
use Rattle.estimate.specs.Block.{block_in, cost_in, stats_of, first_stored, window_at, refine_motion}
use Rattle.estimate.proofs.BlockFacts.{ready, refined_sized, level-most, cell-held, block_straddles, block_measured, block_saves}
use Rattle.estimate.proofs.block.refine_motion.Goals.{Start, After-planes_at-planes, After-first_stored-stored, After-refine_window-window, After-full_search-best}
use Rattle.estimate.proofs.block.refine_motion.Goals as goal

-- 16 bits hold the offsets of a window
abbrev Spans : Window → Type 0
Spans w = ((k : ℕ) → k < w.rows.count → Spanned w.rows.lo k) × ((k : ℕ) → k < w.cols.count → Spanned w.cols.lo k)

spans : {r : MvRange} {stored : MotionVector} → Straddles r → FitsV stored → (s : ℕ) → Spans (refine_window r stored s)
unfolding refine_window
spans {r} {stored} st f s = (
  refine-spanned r.mvy_min r.mvy_max stored.row s st.along.low_fits st.along.high_fits f.row,
  refine-spanned r.mvx_min r.mvx_max stored.col s st.across.low_fits st.across.high_fits f.col,
)

-- a window that is not empty has a row and a column
some : (w : Window) → window_ok w ≡ true → (0 < w.rows.count) × (0 < w.cols.count)
unfolding window_ok
some w e =
    let parts = both (ltb 0 w.rows.count) (ltb 0 w.cols.count) e in
    (ltb-true 0 w.rows.count parts.0, ltb-true 0 w.cols.count parts.1)

module _ (c : Start) where
  abbrev inputs : Inputs
  inputs = inputs_lent c.args.inputs.now

  abbrev block : Block
  block = block_in inputs (level_of inputs.level).refined c.args.bx c.args.by

  abbrev stored : MotionVector
  stored = first_stored inputs.width c.args.bx c.args.by c.args.grid.now.rows.now c.args.grid.now.cols.now

  abbrev window : Window
  window = refine_window block.range stored (level_of inputs.level).ssdec

  abbrev best : MotionSearchResult
  best = refine (rd_at block inputs.cur inputs.ref) block.range stored (level_of inputs.level).ssdec

  sized : Sized (level_of inputs.level) (level_of inputs.level).refined
  sized = refined_sized (ready c.args.inputs.now).leveled

  zero-between : Straddles block.range
  zero-between = block_straddles (ready c.args.inputs.now) sized c.requires.starts.0 c.requires.starts.1

block_is : (c : After-planes_at-planes) → c.planes_at-planes.result.block ≡ block (goal.at.After-planes_at-planes c).Start
block_is c =
    c.planes_at-planes.ensures.block
    ∙ ap (λ (l : Level). block_in (inputs_lent c.args.inputs.now) l.refined c.args.bx c.args.by) c.level_of-row.ensures

-- what is stored in a buffer of 16-bit numbers fits 16 bits
stored_fits : (c : After-first_stored-stored) → FitsV (stored (goal.at.After-first_stored-stored c).Start)
stored_fits c = subst FitsV c.first_stored-stored.ensures (record { row = record { sfits = omega (arith, c.first_stored-stored.type_inv) }; col = record { sfits = omega (arith, c.first_stored-stored.type_inv) } })

window_is : (c : After-refine_window-window) → c.refine_window-window.result ≡ window (goal.at.After-refine_window-window c).Start
window_is c =
    c.refine_window-window.ensures
    ∙ (λ i. refine_window (block_is (goal.at.After-refine_window-window c).After-planes_at-planes i).range (c.first_stored-stored.ensures i) (c.level_of-row.ensures i).ssdec)

best_is : (c : After-full_search-best) → c.full_search-best.result ≡ best (goal.at.After-full_search-best c).Start
unfolding refine
best_is c =
    let planes = c.planes_at-planes.ensures.planes in
    c.full_search-best.ensures
    ∙ (λ i. full_search (rd_at (block_is (goal.at.After-full_search-best c).After-planes_at-planes i) (planes.0 i) (planes.1 i)) (window_is (goal.at.After-full_search-best c).After-refine_window-window i))

pub planes_at-planes-requires-clause-sized : goal.planes_at-planes-requires-clause-sized
planes_at-planes-requires-clause-sized c = rw c.level_of-row.ensures (sized (goal.at.planes_at-planes-requires-clause-sized c).Start)

pub first_stored-stored-requires-clause-in_bounds : goal.first_stored-stored-requires-clause-in_bounds
first_stored-stored-requires-clause-in_bounds c =
    let starts = c.requires.starts in
    let held = c.requires.in_bounds in
    (cell-held starts.0 starts.1 held.0, cell-held starts.0 starts.1 held.1)

pub refine_window-window-requires : goal.refine_window-window-requires
refine_window-window-requires c = rw c.level_of-row.ensures (level-most c.args.inputs.now.level).0

pub full_search-best-requires : goal.full_search-best-requires
full_search-best-requires c =
    let start = (goal.at.full_search-best-requires c).Start in
    let fits = stored_fits (goal.at.full_search-best-requires c).After-first_stored-stored in
    let spanned = subst Spans (sym (window_is (goal.at.full_search-best-requires c).After-refine_window-window)) (spans (zero-between start) fits (level_of c.args.inputs.now.level).ssdec) in
    record { rows_spanned = spanned.0; cols_spanned = spanned.1 }

pub stats_of-requires : goal.stats_of-requires
unfolding window_at block_in
stats_of-requires c =
    let start = (goal.at.stats_of-requires c).Start in
    let tested = ready c.args.inputs.now in
    let across = c.requires.starts.0 in
    let down = c.requires.starts.1 in
    let samples = c.planes_at-planes.ensures.samples in
    let weight : Fits w32 c.args.inputs.now.weight = search rules in
    let i = inputs start in
    let any = some (window start) c.requires.some_window in
    let fits = stored_fits (goal.at.stats_of-requires c).After-first_stored-stored in
    let measured = block_measured tested (sized start) across down in
    let found = refine-settled (block start) i.cur i.ref measured samples.0 samples.1 weight.fits (zero-between start) (stored start) fits (level_of i.level).ssdec any.0 any.1 in
    let saved = block_saves tested (sized start) across down samples.0 samples.1 (subst (Settled (block start) i.cur i.ref) (sym (best_is c)) found) in
    rw (c.level_of-row.ensures, block_is (goal.at.stats_of-requires c).After-planes_at-planes) (record { ssdec_bound = saved.0; area_some = saved.1; sad_most = saved.2 })

pub returns : goal.returns
unfolding refine_motion cost_in
returns c =
    c.stats_of.ensures
    ∙ (λ i. stats_of (c.level_of-row.ensures i).ssdec (block_is (goal.at.returns c).After-planes_at-planes i).w (block_is (goal.at.returns c).After-planes_at-planes i).h (best_is (goal.at.returns c).After-full_search-best i))
