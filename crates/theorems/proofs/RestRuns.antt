-- What a step and a run give depends on the first samples of a plane and the first cells of a grid alone. Assumes nothing.
use mathlib.Core.Path.{◌≡◌, refl, sym, ap, ap₂, subst, ◌∙◌}
use mathlib.Core.Logic.{◌⊎◌, inl, inr}
use mathlib.Core.Bool.{Bool, true, false, cond, ◌&&◌}
use mathlib.Core.List.{List, [], ◌∷◌}
use Prim.Native.Nat.{ℕ, zero, suc, ◌≤◌, ◌<◌}
use native.Mathlib.Nat.{le_refl}
use native.Mathlib.Omega.{arith}
use borrow.Author.Tests.{eqb-true, eqb-false}
use lib.Dec.{ltb, eqb}
use lib.ListN.{length, get_or}
use Rattle.ground.proofs.TestLaws.{tested}
use Rattle.motion.specs.Frame.{Side, Starts, Sized, Placed}
use Rattle.motion.specs.Level.{level_of}
use Rattle.motion.specs.Block.{weighed, block_of}
use Rattle.motion.specs.Superblock.{superblocks_along, superblocks}
use Rattle.grid.specs.declared.cells.MEStats.{MEStats}
use Rattle.grid.specs.Grid.{Grid, room}
use Rattle.grid.specs.Previous.{Previous, previous}
use Rattle.grid.specs.Save.{save_block}
use Rattle.refusal.specs.Refusals.{refuse, ◌then◌, side_ok, level_ok}
use Rattle.refusal.proofs.RefusalLaws.{none_of, then_first}
use Rattle.sad.specs.Cost.{rd_at}
use Rattle.sad.proofs.Contained.{lies, weighed-lies}
use Rattle.sad.proofs.CostLaws.{rd_same}
use Rattle.search.specs.Result.{CostOf}
use Rattle.search.specs.Full.{refine}
use Rattle.predict.specs.declared.predictors.MotionEstimationSubsets.{MotionEstimationSubsets}
use Rattle.estimate.specs.Inputs.{Inputs, Planes, plane_at, inputs_of}
use Rattle.estimate.specs.Asked.{Leveled, four, three, two}
use Rattle.estimate.specs.Block.{block_in, cost_in, full_pixel_me, stats_of, estimate_motion, first_stored, refine_motion}
use Rattle.estimate.proofs.BlockFacts.{own-sized, refined_sized}
use Rattle.superblock.specs.Step.{block_count, block_x, block_y, worked, refined_count, windows_ok, refinements, estimates, step}
use Rattle.superblock.proofs.GeometryLaws.{own-tabled, refined_tabled, placed}
use Rattle.superblock.proofs.StepLaws.{refined_below}
use Rattle.frame.specs.Run.{level_run, inputs_at, frame_run}
use Rattle.order.specs.List.{list_refusal}
use Rattle.steps.specs.Steps.{step_tests, step_refusal, step_grid}
use Rattle.steps.proofs.ReadyLaws.{step-ready}
use Rattle.inter.specs.Runs.{lengths_of, run_tests, run_refusal, run_grid}
use Rattle.inter.proofs.ReadyLaws.{lent_refusal, run-ready, list_inside}
use Rattle.theorems.specs.Rest.{samples, SamePlane, SamePlanes, SameInside, SamePrevious}
use Rattle.theorems.proofs.Inside.{windows_same, step_same, run-same}
use Rattle.theorems.proofs.RestBlocks.{planes_same, grids_same, c_same}
use Rattle.theorems.proofs.BlockReads.{subsets_read}

-- the first blocks of a superblock, where two results are the same for each
worked-is : (result other : ℕ → ℕ → Grid → MEStats) (width height size n count : ℕ) → ((k : ℕ) → k < count → (g : Grid) → result (block_x width size n k) (block_y width size n k) g ≡ other (block_x width size n k) (block_y width size n k) g) → (k : ℕ) → k ≤ count → (g : Grid) → worked result width height size n k g ≡ worked other width height size n k g
unfolding worked
worked-is result other width height size n count same zero most g = refl
worked-is result other width height size n count same (suc k) most g =
    let bx = block_x width size n k in
    let by = block_y width size n k in
    let before = worked-is result other width height size n count same k (omega arith) g in
    (λ i. save_block width height size bx by (result bx by (before i)) (before i))
    ∙ ap (λ (s : MEStats). save_block width height size bx by s (worked other width height size n k g)) (same k (omega arith) (worked other width height size n k g))

-- a level of two runs whose planes and previous grids are the same where they are read
module _ (width height level : ℕ) (wide : Side width) (high : Side height) (leveled : Leveled level) {cur cur' ref ref' : List ℕ} (hc : SamePlane width height level cur cur') (hr : SamePlane width height level ref ref') (present : ℕ) (prev before : Grid) (hp : SamePrevious width height present prev before) (weight : ℕ) where
  abbrev i : Inputs
  i = inputs_of width height level cur ref weight

  abbrev j : Inputs
  j = inputs_of width height level cur' ref' weight

  abbrev p : Previous
  p = previous present prev

  abbrev q : Previous
  q = previous present before

  block_costs : {size bx by : ℕ} → Sized (level_of level) size → Starts width size bx → Starts height size by → rd_at (weighed (block_of width height (level_of level) size bx by) weight) cur ref ≡ rd_at (weighed (block_of width height (level_of level) size bx by) weight) cur' ref'
  block_costs sized across down =
      let here = lies sized wide high across down (samples width height level) (le_refl _) in
      rd_same _ (samples width height level) cur cur' ref ref' (weighed-lies weight here) hc.same hr.same

  estimate_rest : (bx by : ℕ) → Starts width (level_of level).mv_size bx → Starts height (level_of level).mv_size by → (g : Grid) → estimate_motion i p bx by g ≡ estimate_motion j q bx by g
  unfolding estimate_motion block_in cost_in previous
  estimate_rest bx by across down g =
      let sized = own-sized leveled in
      let b = weighed (block_of width height (level_of level) (level_of level).mv_size bx by) weight in
      let ok : Placed width height (level_of level) (level_of level).mv_size bx by = record { wide = wide; high = high; sized = sized; across = across; down = down } in
      ap₂ (λ (rd : CostOf) (mvs : MotionEstimationSubsets). stats_of (level_of level).ssdec b.w b.h (full_pixel_me rd level mvs)) (block_costs sized across down)
      (subsets_read width height level bx by p.present prev before g g (record { each = λ k less. refl }) (c_same width height level bx by present prev before ok hp) (record { each = λ k less. refl }))

  refine-rest : (bx by : ℕ) → Starts width (level_of level).refined bx → Starts height (level_of level).refined by → (g : Grid) → refine_motion i bx by g.rows g.cols ≡ refine_motion j bx by g.rows g.cols
  unfolding refine_motion block_in cost_in
  refine-rest bx by across down g =
      let b = weighed (block_of width height (level_of level) (level_of level).refined bx by) weight in
      ap (λ (rd : CostOf). stats_of (level_of level).ssdec b.w b.h (refine rd b.range (first_stored width bx by g.rows g.cols) (level_of level).ssdec)) (block_costs (refined_sized leveled) across down)

  -- so the two step alike
  module _ (n : ℕ) (below : n < superblocks width height) where
    step-rest : (g : Grid) → step i p n g ≡ step j q n g
    unfolding step estimates refinements
    step-rest g =
        let refined = (level_of level).refined in
        let size = (level_of level).mv_size in
        let few = refined_count width height level n in
        let count = block_count width height size n in
        let first = worked-is (λ bx by g. refine_motion i bx by g.rows g.cols) (λ bx by g. refine_motion j bx by g.rows g.cols) width height refined n few
        (λ k less g.
        let starts = placed (refined_tabled level) wide high below k (refined_below width height level n less) in
        refine-rest _ _ starts.0 starts.1 g) few (le_refl few) g in
        let refined-grid = worked (λ bx by g. refine_motion j bx by g.rows g.cols) width height refined n few g in
        let second = worked-is (estimate_motion i p) (estimate_motion j q) width height size n count
        (λ k less g.
        let starts = placed (own-tabled level) wide high below k less in
        estimate_rest _ _ starts.0 starts.1 g) count (le_refl count) refined-grid in
        (λ m. cond (windows_ok width height level n g.rows g.cols) (worked (estimate_motion i p) width height size n count (first m)) g)
        ∙ ap (λ (x : Grid). cond (windows_ok width height level n g.rows g.cols) x g) second

    pub step-inside : (g h : Grid) → SameInside width height g h → SameInside width height (step i p n g) (step j q n h)
    step-inside g h e = subst (SameInside width height (step i p n g)) (step-rest h) (step_same i p wide high leveled n below g h e)

  run-rest : (ns : List ℕ) → ((k : ℕ) → k < length ns → get_or ns k 0 < superblocks width height) → (g : Grid) → level_run i p ns g ≡ level_run j q ns g
  unfolding level_run
  run-rest [] inside g = refl
  run-rest (n ∷ ns) inside g =
      run-rest ns (λ k less. inside (suc k) (omega arith)) (step i p n g) ∙ ap (level_run j q ns) (step-rest n (inside 0 (omega arith)) g)

  pub run_inside : (ns : List ℕ) → ((k : ℕ) → k < length ns → get_or ns k 0 < superblocks width height) → (g h : Grid) → SameInside width height g h → SameInside width height (level_run i p ns g) (level_run j q ns h)
  run_inside ns inside g h e = subst (SameInside width height (level_run i p ns g)) (run-rest ns inside h) (run-same i p wide high leveled ns inside g h e)

-- the public step
module _ (width height level n : ℕ) {cur cur' ref ref' : List ℕ} (hc : SamePlane width height level cur cur') (hr : SamePlane width height level ref ref') (present : ℕ) (prev before : Grid) (hp : SamePrevious width height present prev before) (weight : ℕ) (g h : Grid) (e : SameInside width height g h) where
  abbrev tests : ℕ
  tests = step_tests width height level n (length cur) (length ref) present (room prev) (room g)

  tests_same : tests ≡ step_tests width height level n (length cur') (length ref') present (room before) (room h)
  unfolding step_tests
  tests_same =
      λ k. refuse 1 (side_ok width && side_ok height) then refuse 2 (level_ok level 0) then refuse 3 (ltb n (superblocks width height)) then planes_same width height level hc hr k then refuse 5 (grids_same hp e k)

  abbrev number : ℕ
  number = step_refusal width height level n cur ref present prev g

  number_by : (eqb tests 0 ≡ true) ⊎ (eqb tests 0 ≡ false) → number ≡ step_refusal width height level n cur' ref' present before h
  unfolding step_refusal
  number_by (inl z) =
      let ready = step-ready width height level n cur ref present prev g (eqb-true tests 0 z) in
      let asked = ready.ready weight in
      let windows = windows_same (inputs_of width height level cur ref weight) (previous present prev) asked.wide asked.high asked.leveled n ready.inside g h e in
      λ k. tests_same k then refuse 8 (windows k)
  number_by (inr z) =
      let some = eqb-false tests 0 z in
      then_first tests _ some ∙ tests_same ∙ sym (then_first _ _ (λ none. some (tests_same ∙ none)))

  number_same : number ≡ step_refusal width height level n cur' ref' present before h
  number_same = number_by (tested (eqb tests 0))

  grid-by : (t : Bool) → eqb number 0 ≡ t → SameInside width height (cond t (step (inputs_of width height level cur ref weight) (previous present prev) n g) g) (cond t (step (inputs_of width height level cur' ref' weight) (previous present before) n h) h)
  unfolding step_refusal
  grid-by true z =
      let ready = step-ready width height level n cur ref present prev g (none_of tests _ (eqb-true number 0 z)).0 in
      let asked = ready.ready weight in
      step-inside width height level asked.wide asked.high asked.leveled hc hr present prev before hp weight n ready.inside g h e
  grid-by false z = e

  pub public_same : (number ≡ step_refusal width height level n cur' ref' present before h) × SameInside width height (step_grid width height level n cur ref present prev weight g) (step_grid width height level n cur' ref' present before weight h)
  unfolding step_grid
  public_same =
      (number_same, subst (λ (m : ℕ). SameInside width height (cond (eqb number 0) (step (inputs_of width height level cur ref weight) (previous present prev) n g) g) (cond (eqb m 0) (step (inputs_of width height level cur' ref' weight) (previous present before) n h) h)) number_same (grid-by (eqb number 0) refl))

-- the run
module _ (width height : ℕ) (cur cur' ref ref' : Planes) (hc : SamePlanes width height cur cur') (hr : SamePlanes width height ref ref') (present : ℕ) (prev before : Grid) (hp : SamePrevious width height present prev before) (weight : ℕ) (list : List ℕ) (g h : Grid) (e : SameInside width height g h) where
  abbrev run-number : ℕ
  run-number = run_refusal width height cur ref present prev list g

  lent_same : (level : ℕ) → lent_refusal width height cur ref level ≡ lent_refusal width height cur' ref' level
  lent_same level = planes_same width height level (hc level) (hr level)

  run-number_same : run-number ≡ run_refusal width height cur' ref' present before list h
  unfolding run_refusal run_tests lengths_of plane_at
  run-number_same =
      λ k. (refuse 1 (side_ok width && side_ok height) then lent_same 4 k then lent_same 3 k then lent_same 2 k then refuse 5 (grids_same hp e k)) then list_refusal (superblocks_along width) (superblocks_along height) list

  run_by : (t : Bool) → eqb run-number 0 ≡ t → SameInside width height (cond t (frame_run width height cur ref weight (previous present prev) list g) g) (cond t (frame_run width height cur' ref' weight (previous present before) list h) h)
  unfolding run_refusal frame_run inputs_at
  run_by true z =
      let parts = none_of (run_tests width height (lengths_of cur) (lengths_of ref) present (room prev) (room g)) (list_refusal (superblocks_along width) (superblocks_along height) list) (eqb-true run-number 0 z) in
      let ready = run-ready width height cur ref present prev g parts.0 in
      let inside = list_inside width height list parts.1 in
      let at4 = run_inside width height 4 ready.wide ready.high four (hc 4) (hr 4) present prev before hp weight list inside g h e in
      let at3 = run_inside width height 3 ready.wide ready.high three (hc 3) (hr 3) present prev before hp weight list inside _ _ at4 in
      run_inside width height 2 ready.wide ready.high two (hc 2) (hr 2) present prev before hp weight list inside _ _ at3
  run_by false z = e

  pub frame_same : (run-number ≡ run_refusal width height cur' ref' present before list h) × SameInside width height (run_grid width height cur ref present prev weight list g) (run_grid width height cur' ref' present before weight list h)
  unfolding run_grid
  frame_same =
      (run-number_same, subst (λ (m : ℕ). SameInside width height (cond (eqb run-number 0) (frame_run width height cur ref weight (previous present prev) list g) g) (cond (eqb m 0) (frame_run width height cur' ref' weight (previous present before) list h) h)) run-number_same (run_by (eqb run-number 0) refl))
