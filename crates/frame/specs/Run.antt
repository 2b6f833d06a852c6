-- A run: levels 4, 3, 2; in each, every superblock in list order.
use Rattle.std.specs.Prelude.{ℕ, List, [], ◌∷◌}
use Rattle.grid.specs.Grid.{Grid}
use Rattle.grid.specs.Previous.{Previous}
use Rattle.estimate.specs.Inputs.{Inputs, inputs_of, Planes, plane_at}
use Rattle.superblock.specs.Step.{step}

-- steps at one level, in list order
unfoldable pub level_run : (i : Inputs) (p : Previous) (list : List ℕ) (g : Grid) → Grid
level_run i p [] g = g
level_run i p (n ∷ ns) g = level_run i p ns (step i p n g)

-- what a level of a run works with
unfoldable pub inputs_at : (width height : ℕ) (cur ref : Planes) (weight level : ℕ) → Inputs
inputs_at width height cur ref weight level =
    inputs_of width height level (plane_at cur level) (plane_at ref level) weight

-- levels 4, 3, 2, for any list of superblocks in the frame
unfoldable pub frame_run : (width height : ℕ) (cur ref : Planes) (weight : ℕ) (p : Previous) (list : List ℕ) (g : Grid) → Grid
frame_run width height cur ref weight p list g =
    let at : ℕ → Inputs = inputs_at width height cur ref weight in
    level_run (at 2) p list (level_run (at 3) p list (level_run (at 4) p list g))
