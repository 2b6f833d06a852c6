-- What a run answers: the refusal and the grid as it stood, else what is defined. Assumes nothing.
use mathlib.Core.Path.{◌≡◌, sym, ap, ap₂, ◌∙◌}
use mathlib.Core.Bool.{Bool, ◌&&◌, cond}
use mathlib.Core.List.{List}
use Prim.Native.Nat.{ℕ}
use borrow.Author.Tests.{eq-eqb, ne_eqb}
use lib.Dec.{eqb}
use Rattle.motion.specs.Superblock.{superblocks_along}
use Rattle.grid.specs.Grid.{Grid, room}
use Rattle.grid.specs.Previous.{Previous, previous}
use Rattle.grid.specs.Lent.{SamePrevious}
use Rattle.refusal.specs.Refusals.{refuse, ◌then◌, side_ok, planes_refusal}
use Rattle.refusal.specs.Present.{present_of}
use Rattle.refusal.proofs.RefusalLaws.{first-is, then_later}
use Rattle.refusal.proofs.PresentLaws.{previous-is, hold-is}
use Rattle.estimate.specs.Inputs.{Planes}
use Rattle.frame.specs.Run.{frame_run}
use Rattle.frame.proofs.PreviousLaws.{frame_run-same_previous}
use Rattle.order.specs.List.{list_refusal}
use Rattle.inter.specs.Runs.{lengths_of, run_tests, run_refusal, run_grid}

module _ (width height : ℕ) (cur ref : Planes) (present : ℕ) (prev : Grid) (weight : ℕ) (list : List ℕ) (g : Grid) where
  -- a code, and the grid left with it, as a run has them
  abbrev pub RunAnswer : ℕ → Grid → Type 0
  RunAnswer code left =
      (code ≡ run_refusal width height cur ref present prev list g)
      × (left ≡ run_grid width height cur ref present prev weight list g)

  run-stays : {code : ℕ} → code ≡ run_refusal width height cur ref present prev list g → (code ≡ 0 → ⊥) → RunAnswer code g
  unfolding run_grid
  run-stays e h = (e, rw (ne_eqb _ 0 (λ z. h (e ∙ z))))

  pub run-refused : {code : ℕ} → code ≡ run_tests width height (lengths_of cur) (lengths_of ref) present (room prev) (room g) → (code ≡ 0 → ⊥) → RunAnswer code g
  unfolding run_refusal
  run-refused e h = run-stays (first-is _ e h) h

  pub list_refused : {code : ℕ} → run_tests width height (lengths_of cur) (lengths_of ref) present (room prev) (room g) ≡ 0 → code ≡ list_refusal (superblocks_along width) (superblocks_along height) list → (code ≡ 0 → ⊥) → RunAnswer code g
  unfolding run_refusal
  list_refused tests e h = run-stays (e ∙ sym (then_later _ _ tests)) h

  pub run-done : {left : Grid} → run_tests width height (lengths_of cur) (lengths_of ref) present (room prev) (room g) ≡ 0 → list_refusal (superblocks_along width) (superblocks_along height) list ≡ 0 → left ≡ frame_run width height cur ref weight (previous present prev) list g → RunAnswer 0 left
  unfolding run_refusal run_grid
  run-done tests listed e =
      let none : run_refusal width height cur ref present prev list g ≡ 0 = then_later _ _ tests ∙ listed in
      (sym none, e ∙ rw (eq-eqb _ 0 none))

-- two calls whose previous grids are the same are answered alike
module _ (width height : ℕ) (cur ref : Planes) (present : ℕ) (prev : Grid) (p : Previous) (list : List ℕ) (g : Grid) (same : SamePrevious p (previous present prev)) where
  pub refusal-same : run_refusal width height cur ref (present_of p) p.grid list g ≡ run_refusal width height cur ref present prev list g
  unfolding run_refusal run_tests
  refusal-same =
      let c = lengths_of cur in
      let r = lengths_of ref in
      let rest = λ (grids : Bool). (refuse 1 (side_ok width && side_ok height) then planes_refusal width height 4 c.quarter r.quarter then planes_refusal width height 3 c.half r.half then planes_refusal width height 2 c.full r.full then refuse 5 grids) then list_refusal (superblocks_along width) (superblocks_along height) list in
      ap rest (hold-is width height present (room g) prev p same)

  pub grid-same : (weight : ℕ) → run_grid width height cur ref (present_of p) p.grid weight list g ≡ run_grid width height cur ref present prev weight list g
  unfolding run_grid
  grid-same weight =
      let left = ap (λ (q : Previous). frame_run width height cur ref weight q list g) (previous-is p) ∙ frame_run-same_previous width height cur ref weight list g same in
      ap₂ (λ (code : ℕ) (next : Grid). cond (eqb code 0) next g) refusal-same left
