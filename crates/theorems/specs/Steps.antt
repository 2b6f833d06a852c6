-- The steps of a run one by one: their windows, and the public step called in their place.
use Rattle.std.specs.Prelude.{◌≡◌, true, List, [], ◌∷◌, ◌++◌, ℕ}
use Rattle.grid.specs.Grid.{Grid}
use Rattle.grid.specs.Previous.{Previous}
use Rattle.estimate.specs.Inputs.{Inputs, Planes, plane_at}
use Rattle.superblock.specs.Step.{windows_ok}
use Rattle.frame.specs.Run.{inputs_at, level_run}
use Rattle.steps.specs.Steps.{step_refusal, step_grid}

-- at each place of a list, no refinement of the step that stands there has an empty window
abbrev pub Windowed : (i : Inputs) (p : Previous) (list : List ℕ) (g : Grid) → Type 0
Windowed i p list g =
    (front back : List ℕ) (n : ℕ) → list ≡ front ++ n ∷ back → windows_ok i.width i.height i.level n (level_run i p front g).rows (level_run i p front g).cols ≡ true

-- so at all three levels of a run
pub record RunWindowed (width height : ℕ) (cur ref : Planes) (weight : ℕ) (p : Previous) (list : List ℕ) (g : Grid) : Type 0 where
  pub at4 : Windowed (inputs_at width height cur ref weight 4) p list g
  pub at3 : Windowed (inputs_at width height cur ref weight 3) p list (level_run (inputs_at width height cur ref weight 4) p list g)
  pub at2 : Windowed (inputs_at width height cur ref weight 2) p list (level_run (inputs_at width height cur ref weight 3) p list (level_run (inputs_at width height cur ref weight 4) p list g))

-- the public step, called at a level once for every superblock of a list, in list order
unfoldable pub step_calls : (width height level : ℕ) (cur ref : Planes) (present : ℕ) (prev : Grid) (weight : ℕ) (list : List ℕ) (g : Grid) → Grid
step_calls width height level cur ref present prev weight [] g = g
step_calls width height level cur ref present prev weight (n ∷ ns) g =
    step_calls width height level cur ref present prev weight ns
    (step_grid width height level n (plane_at cur level) (plane_at ref level) present prev weight g)

-- each of these calls answers 0
abbrev pub AllZero : (width height level : ℕ) (cur ref : Planes) (present : ℕ) (prev : Grid) (weight : ℕ) (list : List ℕ) (g : Grid) → Type 0
AllZero width height level cur ref present prev weight list g =
    (front back : List ℕ) (n : ℕ) → list ≡ front ++ n ∷ back → step_refusal width height level n (plane_at cur level) (plane_at ref level) present prev (step_calls width height level cur ref present prev weight front g) ≡ 0

-- called at levels 4, 3, 2: every call answers 0, and the last leaves this grid
pub record StepsLeave (width height : ℕ) (cur ref : Planes) (present : ℕ) (prev : Grid) (weight : ℕ) (list : List ℕ) (g left : Grid) : Type 0 where
  pub at4 : AllZero width height 4 cur ref present prev weight list g
  pub at3 : AllZero width height 3 cur ref present prev weight list (step_calls width height 4 cur ref present prev weight list g)
  pub at2 : AllZero width height 2 cur ref present prev weight list (step_calls width height 3 cur ref present prev weight list (step_calls width height 4 cur ref present prev weight list g))
  pub last : step_calls width height 2 cur ref present prev weight list (step_calls width height 3 cur ref present prev weight list (step_calls width height 4 cur ref present prev weight list g)) ≡ left
