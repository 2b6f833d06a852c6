-- The frame run: its refusal, and the grid that it leaves.
use Rattle.std.specs.Prelude.{ℕ, ◌&&◌, cond, List, eqb, length}
use Rattle.motion.specs.Superblock.{superblocks_along}
use Rattle.grid.specs.Grid.{Grid, room}
use Rattle.grid.specs.Previous.{previous}
use Rattle.refusal.specs.Refusals.{refuse, ◌then◌, side_ok, planes_refusal, grids_hold}
use Rattle.estimate.specs.Inputs.{Planes}
use Rattle.frame.specs.Run.{frame_run}
use Rattle.order.specs.List.{list_refusal}

-- how long the three planes of a frame are
pub record PlaneLengths : Type 0 where
  pub full : ℕ
  pub half : ℕ
  pub quarter : ℕ

-- the lengths of three planes
unfoldable pub lengths_of : Planes → PlaneLengths
lengths_of p = record { full = length p.full; half = length p.half; quarter = length p.quarter }

-- refusals 1, 4 of all six planes, by their lengths, and 5, by the room of the grids
unfoldable pub run_tests : (width height : ℕ) (cur ref : PlaneLengths) (present prev g : ℕ) → ℕ
run_tests width height cur ref present prev g =
    refuse 1 (side_ok width && side_ok height)
    then planes_refusal width height 4 cur.quarter ref.quarter
    then planes_refusal width height 3 cur.half ref.half
    then planes_refusal width height 2 cur.full ref.full
    then refuse 5 (grids_hold width height present prev g)

-- then 6 and 7, of the list
unfoldable pub run_refusal : (width height : ℕ) (cur ref : Planes) (present : ℕ) (prev : Grid) (list : List ℕ) (g : Grid) → ℕ
run_refusal width height cur ref present prev list g =
    run_tests width height (lengths_of cur) (lengths_of ref) present (room prev) (room g)
    then list_refusal (superblocks_along width) (superblocks_along height) list

-- after a refusal all cells stay
unfoldable pub run_grid : (width height : ℕ) (cur ref : Planes) (present : ℕ) (prev : Grid) (weight : ℕ) (list : List ℕ) (g : Grid) → Grid
run_grid width height cur ref present prev weight list g =
    cond (eqb (run_refusal width height cur ref present prev list g) 0)
    (frame_run width height cur ref weight (previous present prev) list g) g
