-- `estimate::block::estimate_motion` meets its contract: the zero vector is in range, and the search hands back a record that can be saved.
use Rattle.std.proofs.Common.{◌≡◌, true, sym, ap, subst, ◌∙◌, Fits, w32, rules}
use Rattle.motion.specs.declared.level.Level.{Level}
use Rattle.motion.specs.declared.block.Block.{Block}
use Rattle.motion.specs.Vector.{zero_v}
use Rattle.motion.specs.Range.{in_range}
use Rattle.motion.specs.Level.{level_of}
use Rattle.motion.specs.Frame.{Sized}
use Rattle.grid.specs.Lent.{lent, previous_lent}
use Rattle.sad.specs.Cost.{rd_at}
use Rattle.search.specs.declared.result.MotionSearchResult.{MotionSearchResult}
use Rattle.search.proofs.FoundLaws.{Settled}
use Rattle.predict.specs.declared.predictors.MotionEstimationSubsets.{MotionEstimationSubsets}
use Rattle.predict.specs.Predictors.{subsets_of}
use Rattle.predict.proofs.SubsetLaws.{Sound, subsets_sound}
use Rattle.estimate.specs.Inputs.{Inputs}
use Rattle.estimate.specs.Lent.{inputs_lent}
use Rattle.estimate.specs.Asked.{Listed}
use Rattle.estimate.specs.Block.{block_in, cost_in, full_pixel_me, stats_of, estimate_motion}
use Rattle.estimate.proofs.BlockFacts.{ready, own-sized, listed, block_zero, block_measured, block_saves, full_pixel_me-settled}
use Rattle.estimate.proofs.PreviousLaws.{estimate_motion-same_previous}
use Rattle.estimate.proofs.block.estimate_motion.Goals.{Start, After-planes_at-planes, After-full_pixel_me-best}
use Rattle.estimate.proofs.block.estimate_motion.Goals as goal

module _ (c : Start) where
  abbrev inputs : Inputs
  inputs = inputs_lent c.args.inputs.now

  abbrev block : Block
  block = block_in inputs (level_of inputs.level).mv_size c.args.bx c.args.by

  abbrev mvs : MotionEstimationSubsets
  mvs = subsets_of inputs.width inputs.height inputs.level c.args.bx c.args.by (previous_lent c.args.prev).present (previous_lent c.args.prev).grid (lent c.args.grid.now)

  abbrev best : MotionSearchResult
  best = full_pixel_me (rd_at block inputs.cur inputs.ref) inputs.level mvs

  sized : Sized (level_of inputs.level) (level_of inputs.level).mv_size
  sized = own-sized (ready c.args.inputs.now).leveled

  sound : Sound mvs
  sound = subsets_sound inputs.width inputs.height inputs.level c.args.bx c.args.by (previous_lent c.args.prev).present (previous_lent c.args.prev).grid (lent c.args.grid.now)

  zero-in : in_range block.range zero_v ≡ true
  zero-in = block_zero (ready c.args.inputs.now) sized c.requires.starts.0 c.requires.starts.1

block_is : (c : After-planes_at-planes) → c.planes_at-planes.result.block ≡ block (goal.at.After-planes_at-planes c).Start
block_is c =
    c.planes_at-planes.ensures.block
    ∙ ap (λ (l : Level). block_in (inputs_lent c.args.inputs.now) l.mv_size c.args.bx c.args.by) c.level_of-row.ensures

best_is : (c : After-full_pixel_me-best) → c.full_pixel_me-best.result ≡ best (goal.at.After-full_pixel_me-best c).Start
best_is c =
    let planes = c.planes_at-planes.ensures.planes in
    c.full_pixel_me-best.ensures
    ∙ (λ i. full_pixel_me (rd_at (block_is (goal.at.After-full_pixel_me-best c).After-planes_at-planes i) (planes.0 i) (planes.1 i)) c.args.inputs.now.level (c.get_subset_predictors-p.ensures.subsets i))

pub planes_at-planes-requires-clause-sized : goal.planes_at-planes-requires-clause-sized
planes_at-planes-requires-clause-sized c = rw c.level_of-row.ensures (sized (goal.at.planes_at-planes-requires-clause-sized c).Start)

pub get_subset_predictors-p-requires-clause-placed : goal.get_subset_predictors-p-requires-clause-placed
get_subset_predictors-p-requires-clause-placed c =
    let tested = ready c.args.inputs.now in
    let starts = c.requires.starts in
    record { wide = tested.wide; high = tested.high; sized = sized (goal.at.get_subset_predictors-p-requires-clause-placed c).Start; across = starts.0; down = starts.1 }

pub invariant_of-full_pixel_me : goal.invariant_of-full_pixel_me
invariant_of-full_pixel_me c =
    rw (block_is (goal.at.invariant_of-full_pixel_me c).After-planes_at-planes) (record { zero_in_range = zero-in (goal.at.invariant_of-full_pixel_me c).Start })

pub full_pixel_me-best-requires : goal.full_pixel_me-best-requires
full_pixel_me-best-requires c =
    subst Listed (sym c.get_subset_predictors-p.ensures.subsets) (listed (sound (goal.at.full_pixel_me-best-requires c).Start))

pub stats_of-requires : goal.stats_of-requires
unfolding block_in
stats_of-requires c =
    let start = (goal.at.stats_of-requires c).Start in
    let tested = ready c.args.inputs.now in
    let across = c.requires.starts.0 in
    let down = c.requires.starts.1 in
    let samples = c.planes_at-planes.ensures.samples in
    let weight : Fits w32 c.args.inputs.now.weight = search rules in
    let i = inputs start in
    let measured = block_measured tested (sized start) across down in
    let found = full_pixel_me-settled (block start) i.cur i.ref (zero-in start) measured samples.0 samples.1 weight.fits (mvs start) (sound start) i.level in
    let saved = block_saves tested (sized start) across down samples.0 samples.1 (subst (Settled (block start) i.cur i.ref) (sym (best_is c)) found) in
    rw (c.level_of-row.ensures, block_is (goal.at.stats_of-requires c).After-planes_at-planes) (record { ssdec_bound = saved.0; area_some = saved.1; sad_most = saved.2 })

pub returns : goal.returns
unfolding estimate_motion cost_in
returns c =
    let i = inputs_lent c.args.inputs.now in
    let p = previous_lent c.args.prev in
    let g = lent c.args.grid.now in
    let saved : c.stats_of.result ≡ estimate_motion i p c.args.bx c.args.by g =
    c.stats_of.ensures
    ∙ (λ j. stats_of (c.level_of-row.ensures j).ssdec (block_is (goal.at.returns c).After-planes_at-planes j).w (block_is (goal.at.returns c).After-planes_at-planes j).h (best_is (goal.at.returns c).After-full_pixel_me-best j)) in
    record { estimated = saved; same_previous = λ q same. saved ∙ estimate_motion-same_previous i c.args.bx c.args.by g same }
