-- The public step, called at levels 4, 3, 2 for every superblock of an accepted list: every call answers 0, and the last leaves the
-- grid that the run leaves. Assumes nothing.
use mathlib.Core.Path.{◌≡◌, refl, sym, ap, subst, ◌∙◌}
use mathlib.Core.Bool.{true, ◌&&◌}
use mathlib.Core.List.{List, [], ◌∷◌, ◌++◌, append_assoc}
use Prim.Native.Nat.{ℕ, ◌<◌, ◌^◌, min}
use native.Mathlib.Omega.{arith}
use borrow.Author.Tests.{lt-ltb, eq-eqb}
use lib.ListN.{length, get_or, length-append}
use lib.Seq.{get_or-append_seam}
use Rattle.motion.specs.Superblock.{superblocks_along, superblocks}
use Rattle.grid.specs.Grid.{Grid, room}
use Rattle.grid.specs.Previous.{previous}
use Rattle.refusal.specs.Refusals.{refuse, ◌then◌, side_ok, level_ok, planes_refusal, grids_hold}
use Rattle.refusal.proofs.RefusalLaws.{first-passed, passes, none_of}
use Rattle.estimate.specs.Inputs.{Inputs, Planes, plane_at}
use Rattle.superblock.specs.Step.{windows_ok, step}
use Rattle.superblock.proofs.StepLaws.{AsLong, long_more, step-long}
use Rattle.frame.specs.Run.{inputs_at, level_run, frame_run}
use Rattle.frame.proofs.RunLaws.{run_long}
use Rattle.order.specs.List.{list_refusal}
use Rattle.steps.specs.Steps.{step_tests, step_refusal, step_grid}
use Rattle.steps.proofs.OutcomeLaws.{step-done}
use Rattle.inter.specs.Runs.{lengths_of, run_tests, run_refusal, run_grid}
use Rattle.inter.proofs.ReadyLaws.{lent_refusal, list_inside}
use Rattle.theorems.specs.Steps.{Windowed, step_calls, AllZero, StepsLeave}
use Rattle.theorems.specs.Demand3.{OfSamples}
use Rattle.theorems.proofs.NoEight.{never_eight}

-- refusal 5 looks at lengths alone
holds_long : (width height present : ℕ) (prev : Grid) {g now : Grid} → AsLong g now → grids_hold width height present (room prev) (room g) ≡ true → grids_hold width height present (room prev) (room now) ≡ true
unfolding room
holds_long width height present prev {g} {now} long e =
    (λ i. grids_hold width height present (room prev) (min (long.rows i) (min (long.cols i) (long.sads i)))) ∙ e

-- what a run's tests leave for the tests of its steps at a level
pub record LevelTests (width height level : ℕ) (cur ref : List ℕ) (present : ℕ) (prev g : Grid) : Type 0 where
  pub sides : side_ok width && side_ok height ≡ true
  pub named : level_ok level 0 ≡ true
  pub planes : planes_refusal width height level (length cur) (length ref) ≡ 0
  pub grids : grids_hold width height present (room prev) (room g) ≡ true

module _ (width height level : ℕ) (cur ref : List ℕ) (present : ℕ) (prev : Grid) where
  tests_long : {g now : Grid} → AsLong g now → LevelTests width height level cur ref present prev g → LevelTests width height level cur ref present prev now
  tests_long long t = record { sides = t.sides; named = t.named; planes = t.planes; grids = holds_long width height present prev long t.grids }

  step-passes : (g : Grid) → LevelTests width height level cur ref present prev g → (n : ℕ) → n < superblocks width height → step_tests width height level n (length cur) (length ref) present (room prev) (room g) ≡ 0
  unfolding step_tests refuse ◌then◌
  step-passes g t n h = rw (t.sides, t.named, lt-ltb n (superblocks width height) h, t.planes, t.grids)

-- every number that stands in a list is a superblock of the frame
abbrev Inside : ℕ → ℕ → List ℕ → Type 0
Inside width height ns = (front back : List ℕ) (n : ℕ) → ns ≡ front ++ n ∷ back → n < superblocks width height

-- the calls of a level are its run
module _ (width height level : ℕ) (cur ref : Planes) (present : ℕ) (prev : Grid) (weight : ℕ) where
  abbrev inputs : Inputs
  inputs = inputs_at width height cur ref weight level

  abbrev Tests : Grid → Type 0
  Tests g = LevelTests width height level (plane_at cur level) (plane_at ref level) present prev g

  call_is : (g : Grid) → Tests g → (n : ℕ) → n < superblocks width height → windows_ok width height level n g.rows g.cols ≡ true → (step_refusal width height level n (plane_at cur level) (plane_at ref level) present prev g ≡ 0) × (step_grid width height level n (plane_at cur level) (plane_at ref level) present prev weight g ≡ step inputs (previous present prev) n g)
  unfolding inputs_at
  call_is g t n h ok =
      let done = step-done width height level n (plane_at cur level) (plane_at ref level) present prev weight g {left = step inputs (previous present prev) n g} (step-passes width height level (plane_at cur level) (plane_at ref level) present prev g t n h) ok refl in
      (sym done.0, sym done.1)

  pub calls_run : (ns : List ℕ) (g : Grid) → Tests g → Inside width height ns → Windowed inputs (previous present prev) ns g → (step_calls width height level cur ref present prev weight ns g ≡ level_run inputs (previous present prev) ns g) × Tests (level_run inputs (previous present prev) ns g)
  unfolding step_calls level_run inputs_at
  calls_run [] g t inside windows = (refl, t)
  calls_run (n ∷ ns) g t inside windows =
      let p = previous present prev in
      let one = call_is g t n (inside [] ns n refl) (windows [] ns n refl) in
      let next = tests_long width height level (plane_at cur level) (plane_at ref level) present prev (step-long inputs p n g) t in
      let rest = calls_run ns (step inputs p n g) next (λ front back m e. inside (n ∷ front) back m (ap (λ (xs : List ℕ). n ∷ xs) e)) (λ front back m e. windows (n ∷ front) back m (ap (λ (xs : List ℕ). n ∷ xs) e)) in
      (ap (step_calls width height level cur ref present prev weight ns) one.1 ∙ rest.0, rest.1)

  -- each of them answers 0
  pub calls_zero : (list : List ℕ) (g : Grid) → Tests g → Inside width height list → Windowed inputs (previous present prev) list g → AllZero width height level cur ref present prev weight list g
  unfolding inputs_at
  calls_zero list g t inside windows front back n split =
      let longer : (f b : List ℕ) (m : ℕ) → front ≡ f ++ m ∷ b → list ≡ f ++ m ∷ (b ++ n ∷ back) = λ f b m e. split ∙ ap (λ (xs : List ℕ). xs ++ n ∷ back) e ∙ append_assoc f (m ∷ b) (n ∷ back) in
      let before = calls_run front g t (λ f b m e. inside f (b ++ n ∷ back) m (longer f b m e)) (λ f b m e. windows f (b ++ n ∷ back) m (longer f b m e)) in
      ap (λ (h : Grid). step_refusal width height level n (plane_at cur level) (plane_at ref level) present prev h) before.0
      ∙ (call_is (level_run inputs (previous present prev) front g) before.1 n (inside front back n split) (windows front back n split)).0

-- what a run's own tests say of each level
module _ (width height : ℕ) (cur ref : Planes) (present : ℕ) (prev g : Grid) (e : run_tests width height (lengths_of cur) (lengths_of ref) present (room prev) (room g) ≡ 0) where
  abbrev At : ℕ → Type 0
  At level = LevelTests width height level (plane_at cur level) (plane_at ref level) present prev g

  levels_pass : At 4 × At 3 × At 2
  unfolding run_tests lengths_of plane_at level_ok
  levels_pass =
      let lent : ℕ → ℕ = lent_refusal width height cur ref in
      let grids = grids_hold width height present (room prev) (room g) in
      let one = first-passed 0 (side_ok width && side_ok height) (lent 4 then lent 3 then lent 2 then refuse 5 grids) e in
      let quarter = none_of (lent 4) (lent 3 then lent 2 then refuse 5 grids) one.1 in
      let half = none_of (lent 3) (lent 2 then refuse 5 grids) quarter.1 in
      let full = none_of (lent 2) (refuse 5 grids) half.1 in
      let held = passes 4 grids full.1 in (
        record { sides = one.0; named = refl; planes = quarter.0; grids = held },
        record { sides = one.0; named = refl; planes = half.0; grids = held },
        record { sides = one.0; named = refl; planes = full.0; grids = held },
      )

-- a number that stands in the list is one of its members
standing_inside : (width height : ℕ) (list : List ℕ) → list_refusal (superblocks_along width) (superblocks_along height) list ≡ 0 → Inside width height list
standing_inside width height list ok front back n split =
    let place : length front < length list = rw split (simp length-append (omega arith)) in
    let here = ap (λ (xs : List ℕ). get_or xs (length front) 0) split ∙ get_or-append_seam front n back 0 in
    subst (λ (m : ℕ). m < superblocks width height) here (list_inside width height list ok (length front) place)

pub public_step : (width height : ℕ) (cur ref : Planes) (present : ℕ) (prev : Grid) (weight : ℕ) (list : List ℕ) (g : Grid) → OfSamples cur → OfSamples ref → weight < 2 ^ 32 → run_refusal width height cur ref present prev list g ≡ 0 → StepsLeave width height cur ref present prev weight list g (run_grid width height cur ref present prev weight list g)
unfolding run_refusal run_grid frame_run
public_step width height cur ref present prev weight list g hc hr hw done =
    let none = none_of (run_tests width height (lengths_of cur) (lengths_of ref) present (room prev) (room g)) (list_refusal (superblocks_along width) (superblocks_along height) list) done in
    let pass = levels_pass width height cur ref present prev g none.0 in
    let inside = standing_inside width height list none.1 in
    let windows = never_eight width height cur ref present prev weight list g hc hr hw done in
    let p = previous present prev in
    let four = calls_run width height 4 cur ref present prev weight list g pass.0 inside windows.at4 in
    let g3 = level_run (inputs_at width height cur ref weight 4) p list g in
    let t3 = tests_long width height 3 (plane_at cur 3) (plane_at ref 3) present prev (run_long (inputs_at width height cur ref weight 4) p list g) pass.1 in
    let three = calls_run width height 3 cur ref present prev weight list g3 t3 inside windows.at3 in
    let g2 = level_run (inputs_at width height cur ref weight 3) p list g3 in
    let long2 = long_more (run_long (inputs_at width height cur ref weight 4) p list g) (run_long (inputs_at width height cur ref weight 3) p list g3) in
    let t2 = tests_long width height 2 (plane_at cur 2) (plane_at ref 2) present prev long2 pass.2 in
    let two = calls_run width height 2 cur ref present prev weight list g2 t2 inside windows.at2 in
    let back3 : (h : Grid) → h ≡ g3 → AllZero width height 3 cur ref present prev weight list h = λ h e. subst (AllZero width height 3 cur ref present prev weight list) (sym e) (calls_zero width height 3 cur ref present prev weight list g3 t3 inside windows.at3) in
    let after3 = ap (step_calls width height 3 cur ref present prev weight list) four.0 ∙ three.0 in
    record {
      at4 = calls_zero width height 4 cur ref present prev weight list g pass.0 inside windows.at4;
      at3 = back3 (step_calls width height 4 cur ref present prev weight list g) four.0;
      at2 = subst (AllZero width height 2 cur ref present prev weight list) (sym after3) (calls_zero width height 2 cur ref present prev weight list g2 t2 inside windows.at2);
      last = ap (step_calls width height 2 cur ref present prev weight list) after3 ∙ two.0 ∙ rw (eq-eqb _ 0 done);
    }
