-- The superblock step: its refusal, and the grid that it leaves.
use Rattle.std.specs.Prelude.{ℕ, ◌&&◌, cond, List, ltb, eqb, length}
use Rattle.motion.specs.Superblock.{superblocks}
use Rattle.grid.specs.Grid.{Grid, room}
use Rattle.grid.specs.Previous.{previous}
use Rattle.refusal.specs.Refusals.{refuse, ◌then◌, side_ok, level_ok, planes_refusal, grids_hold}
use Rattle.estimate.specs.Inputs.{inputs_of}
use Rattle.superblock.specs.Step.{windows_ok, step}

-- refusals 1 to 5 of a step, by the lengths of its two planes and the room of its grids; 3: the superblock is not in the frame
unfoldable pub step_tests : (width height level n cur ref present prev g : ℕ) → ℕ
step_tests width height level n cur ref present prev g =
    refuse 1 (side_ok width && side_ok height)
    then refuse 2 (level_ok level 0)
    then refuse 3 (ltb n (superblocks width height))
    then planes_refusal width height level cur ref
    then refuse 5 (grids_hold width height present prev g)

-- then 8: a refinement window of the step is empty
unfoldable pub step_refusal : (width height level n : ℕ) (cur ref : List ℕ) (present : ℕ) (prev g : Grid) → ℕ
step_refusal width height level n cur ref present prev g =
    step_tests width height level n (length cur) (length ref) present (room prev) (room g)
    then refuse 8 (windows_ok width height level n g.rows g.cols)

-- after a refusal all cells stay
unfoldable pub step_grid : (width height level n : ℕ) (cur ref : List ℕ) (present : ℕ) (prev : Grid) (weight : ℕ) (g : Grid) → Grid
step_grid width height level n cur ref present prev weight g =
    cond (eqb (step_refusal width height level n cur ref present prev g) 0)
    (step (inputs_of width height level cur ref weight) (previous present prev) n g) g
