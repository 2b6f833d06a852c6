-- What a step answers: the refusal and the grid as it stood, else what is defined. Assumes nothing.
use mathlib.Core.Path.{◌≡◌, refl, sym, ap, ap₂, ◌∙◌}
use mathlib.Core.Bool.{Bool, true, false, ◌&&◌, cond}
use mathlib.Core.List.{List}
use Prim.Native.Nat.{ℕ}
use native.Mathlib.Omega.{arith}
use borrow.Author.Tests.{eq-eqb, ne_eqb}
use lib.Dec.{eqb, ltb}
use lib.ListN.{length}
use Rattle.motion.specs.Superblock.{superblocks}
use Rattle.grid.specs.Grid.{Grid, room}
use Rattle.grid.specs.Previous.{Previous, previous}
use Rattle.grid.specs.Lent.{SamePrevious}
use Rattle.refusal.specs.Refusals.{refuse, ◌then◌, side_ok, level_ok, planes_refusal}
use Rattle.refusal.specs.Present.{present_of}
use Rattle.refusal.proofs.RefusalLaws.{first-is}
use Rattle.refusal.proofs.PresentLaws.{previous-is, hold-is}
use Rattle.estimate.specs.Inputs.{inputs_of}
use Rattle.superblock.specs.Step.{windows_ok, step}
use Rattle.superblock.proofs.PreviousLaws.{step-same_previous}
use Rattle.steps.specs.Steps.{step_tests, step_refusal, step_grid}

module _ (width height level n : ℕ) (cur ref : List ℕ) (present : ℕ) (prev : Grid) (weight : ℕ) (g : Grid) where
  -- a code, and the grid left with it, as a step has them
  abbrev pub StepAnswer : ℕ → Grid → Type 0
  StepAnswer code left =
      (code ≡ step_refusal width height level n cur ref present prev g)
      × (left ≡ step_grid width height level n cur ref present prev weight g)

  step_stays : {code : ℕ} → code ≡ step_refusal width height level n cur ref present prev g → (code ≡ 0 → ⊥) → StepAnswer code g
  unfolding step_grid
  step_stays e h = (e, rw (ne_eqb _ 0 (λ z. h (e ∙ z))))

  pub step-refused : {code : ℕ} → code ≡ step_tests width height level n (length cur) (length ref) present (room prev) (room g) → (code ≡ 0 → ⊥) → StepAnswer code g
  unfolding step_refusal
  step-refused e h = step_stays (first-is _ e h) h

  pub step-empty : {left : Grid} → step_tests width height level n (length cur) (length ref) present (room prev) (room g) ≡ 0 → windows_ok width height level n g.rows g.cols ≡ false → left ≡ step (inputs_of width height level cur ref weight) (previous present prev) n g → StepAnswer 8 left
  unfolding step_refusal refuse ◌then◌ step
  step-empty tests empty e =
      let stays = step_stays {code = 8} (rw (tests, empty)) (λ z. absurd (omega arith)) in
      (stays.0, e ∙ rw empty stays.1)

  pub step-done : {left : Grid} → step_tests width height level n (length cur) (length ref) present (room prev) (room g) ≡ 0 → windows_ok width height level n g.rows g.cols ≡ true → left ≡ step (inputs_of width height level cur ref weight) (previous present prev) n g → StepAnswer 0 left
  unfolding step_refusal refuse ◌then◌ step_grid
  step-done tests some e =
      let none : step_refusal width height level n cur ref present prev g ≡ 0 = rw (tests, some) in
      (sym none, e ∙ rw (eq-eqb _ 0 none))

  -- either way the grid left is the one defined
  pub step-left : {left : Grid} → step_tests width height level n (length cur) (length ref) present (room prev) (room g) ≡ 0 → left ≡ step (inputs_of width height level cur ref weight) (previous present prev) n g → left ≡ step_grid width height level n cur ref present prev weight g
  step-left {left} tests e = go (windows_ok width height level n g.rows g.cols) refl
    where
      go : (t : Bool) → windows_ok width height level n g.rows g.cols ≡ t → left ≡ step_grid width height level n cur ref present prev weight g
      go true some = (step-done tests some e).1
      go false empty = (step-empty tests empty e).1

-- two calls whose previous grids are the same are answered alike
module _ (width height level n : ℕ) (cur ref : List ℕ) (present : ℕ) (prev : Grid) (p : Previous) (g : Grid) (same : SamePrevious p (previous present prev)) where
  pub refusal-same : step_refusal width height level n cur ref (present_of p) p.grid g ≡ step_refusal width height level n cur ref present prev g
  unfolding step_refusal step_tests
  refusal-same =
      let rest = λ (grids : Bool). (refuse 1 (side_ok width && side_ok height) then refuse 2 (level_ok level 0) then refuse 3 (ltb n (superblocks width height)) then planes_refusal width height level (length cur) (length ref) then refuse 5 grids) then refuse 8 (windows_ok width height level n g.rows g.cols) in
      ap rest (hold-is width height present (room g) prev p same)

  pub grid-same : (weight : ℕ) → step_grid width height level n cur ref (present_of p) p.grid weight g ≡ step_grid width height level n cur ref present prev weight g
  unfolding step_grid
  grid-same weight =
      let i = inputs_of width height level cur ref weight in
      let stepped = ap (λ (q : Previous). step i q n g) (previous-is p) ∙ step-same_previous i n g same in
      ap₂ (λ (code : ℕ) (next : Grid). cond (eqb code 0) next g) refusal-same stepped
