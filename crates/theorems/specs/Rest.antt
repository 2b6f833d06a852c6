-- 'A longer slice is allowed; the rest isn't read': two slices that agree in the first stride·rows samples, and two grids that agree
-- in the first (W/4)(H/4) cells, give the same in every entry point that reads them.
use Rattle.std.specs.Prelude.{◌≡◌, List, ℕ, ◌*◌, ◌≤◌, ◌<◌, length, get_or}
use Rattle.motion.specs.declared.vector.MotionVector.{MotionVector}
use Rattle.motion.specs.Level.{level_of}
use Rattle.motion.specs.Block.{plane_of}
use Rattle.grid.specs.Grid.{Grid, Held, cells}
use Rattle.estimate.specs.Inputs.{Planes, plane_at}
use Rattle.single.specs.Leaves.{candidate_answer}
use Rattle.single.specs.Predicting.{predictors_answer}
use Rattle.searches.specs.declared.searches.Method.{Method}
use Rattle.searches.specs.Searches.{search_answer}
use Rattle.searches.specs.Refinement.{refine_answer}
use Rattle.steps.specs.Steps.{step_refusal, step_grid}
use Rattle.inter.specs.Runs.{run_refusal, run_grid}
use Rattle.theorems.specs.Cells.{AgreeOn}

-- two planes of a level that are long enough, and the same in its stride times rows
abbrev pub samples : (width height level : ℕ) → ℕ
samples width height level = (plane_of width height (level_of level)).stride * (plane_of width height (level_of level)).rows

pub record SamePlane (width height level : ℕ) (xs ys : List ℕ) : Type 0 where
  pub one : samples width height level ≤ length xs
  pub other : samples width height level ≤ length ys
  pub same : (k : ℕ) → k < samples width height level → get_or xs k 0 ≡ get_or ys k 0

-- so at all three levels
abbrev pub SamePlanes : (width height : ℕ) (xs ys : Planes) → Type 0
SamePlanes width height xs ys = (level : ℕ) → SamePlane width height level (plane_at xs level) (plane_at ys level)

-- two grids of a frame's cells, of any lengths, that hold the same in each cell inside the frame
pub record SameInside (width height : ℕ) (g h : Grid) : Type 0 where
  pub one : Held width height g
  pub other : Held width height h
  pub same : AgreeOn (λ (c : ℕ). c < cells width height) g h

-- so where a previous grid is said to be present
abbrev pub SamePrevious : (width height present : ℕ) (prev before : Grid) → Type 0
SamePrevious width height present prev before = (present ≡ 0 → ⊥) → SameInside width height prev before

pub record RestUnread : Type 0 where
  pub candidate : (width height level refined bx by : ℕ) {cur cur' ref ref' : List ℕ} → SamePlane width height level cur cur' → SamePlane width height level ref ref' → (v : MotionVector) (weight : ℕ) → candidate_answer width height level refined bx by cur ref v weight ≡ candidate_answer width height level refined bx by cur' ref' v weight
  pub searches : (method : Method) (width height level bx by : ℕ) {cur cur' ref ref' : List ℕ} → SamePlane width height level cur cur' → SamePlane width height level ref ref' → (v : MotionVector) (weight : ℕ) → search_answer method width height level bx by cur ref v weight ≡ search_answer method width height level bx by cur' ref' v weight
  pub refines : (width height level bx by : ℕ) {cur cur' ref ref' : List ℕ} → SamePlane width height level cur cur' → SamePlane width height level ref ref' → (g h : Grid) → SameInside width height g h → (weight : ℕ) → refine_answer width height level bx by cur ref g weight ≡ refine_answer width height level bx by cur' ref' h weight
  pub predictors : (width height level bx by present : ℕ) (prev before g h : Grid) → SamePrevious width height present prev before → SameInside width height g h → predictors_answer width height level bx by present prev g ≡ predictors_answer width height level bx by present before h
  pub step : (width height level n : ℕ) {cur cur' ref ref' : List ℕ} → SamePlane width height level cur cur' → SamePlane width height level ref ref' → (present : ℕ) (prev before : Grid) → SamePrevious width height present prev before → (weight : ℕ) (g h : Grid) → SameInside width height g h → (step_refusal width height level n cur ref present prev g ≡ step_refusal width height level n cur' ref' present before h) × SameInside width height (step_grid width height level n cur ref present prev weight g) (step_grid width height level n cur' ref' present before weight h)
  pub run : (width height : ℕ) (cur cur' ref ref' : Planes) → SamePlanes width height cur cur' → SamePlanes width height ref ref' → (present : ℕ) (prev before : Grid) → SamePrevious width height present prev before → (weight : ℕ) (list : List ℕ) (g h : Grid) → SameInside width height g h → (run_refusal width height cur ref present prev list g ≡ run_refusal width height cur' ref' present before list h) × SameInside width height (run_grid width height cur ref present prev weight list g) (run_grid width height cur' ref' present before weight list h)
