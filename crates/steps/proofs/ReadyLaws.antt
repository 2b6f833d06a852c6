-- What a step that is not refused may count on. Assumes nothing.
use mathlib.Core.Path.{◌≡◌}
use mathlib.Core.Bool.{true, ◌&&◌}
use mathlib.Core.List.{List}
use Prim.Native.Nat.{ℕ, ◌<◌}
use borrow.Author.Tests.{ltb-true}
use lib.Dec.{ltb}
use lib.ListN.{length}
use Rattle.ground.proofs.TestLaws.{both}
use Rattle.motion.specs.Superblock.{superblocks}
use Rattle.grid.specs.Grid.{Grid, room}
use Rattle.refusal.specs.Refusals.{refuse, ◌then◌, side_ok, level_ok, planes_refusal, grids_hold}
use Rattle.refusal.proofs.RefusalLaws.{first-passed, passes, none_of, side_of, lent}
use Rattle.refusal.proofs.GridsLaws.{GridsHeld, grids_held}
use Rattle.estimate.specs.Inputs.{inputs_of}
use Rattle.estimate.specs.Asked.{Ready}
use Rattle.estimate.proofs.BlockFacts.{leveled-of}
use Rattle.steps.specs.Steps.{step_tests}

-- what refusals 1 to 5 leave of a step
pub record StepReady (width height level n : ℕ) (cur ref : List ℕ) (present : ℕ) (prev g : Grid) : Type 0 where
  pub level_passed : level_ok level 0 ≡ true
  pub ready : (weight : ℕ) → Ready (inputs_of width height level cur ref weight)
  pub inside : n < superblocks width height
  pub grids : GridsHeld width height present prev g

pub step-ready : (width height level n : ℕ) (cur ref : List ℕ) (present : ℕ) (prev g : Grid) → step_tests width height level n (length cur) (length ref) present (room prev) (room g) ≡ 0 → StepReady width height level n cur ref present prev g
unfolding step_tests
step-ready width height level n cur ref present prev g e =
    let planes = planes_refusal width height level (length cur) (length ref) in
    let grids = grids_hold width height present (room prev) (room g) in
    let number = ltb n (superblocks width height) in
    let one = first-passed 0 (side_ok width && side_ok height) (refuse 2 (level_ok level 0) then refuse 3 number then planes then refuse 5 grids) e in
    let two = first-passed 1 (level_ok level 0) (refuse 3 number then planes then refuse 5 grids) one.1 in
    let three = first-passed 2 number (planes then refuse 5 grids) two.1 in
    let four = none_of planes (refuse 5 grids) three.1 in
    let sides = both (side_ok width) (side_ok height) one.0 in
    let lent = lent width height level (length cur) (length ref) four.0 in
    record {
      level_passed = two.0;
      ready = λ weight. record {
        wide = side_of width sides.0;
        high = side_of height sides.1;
        leveled = leveled-of level two.0;
        cur = lent.cur;
        ref = lent.ref;
      };
      inside = ltb-true n (superblocks width height) three.0;
      grids = grids_held width height present prev g (passes 4 grids four.1);
    }
