-- What a run that is not refused may count on. Assumes nothing.
use mathlib.Core.Path.{◌≡◌}
use mathlib.Core.Bool.{◌&&◌}
use mathlib.Core.List.{List}
use Prim.Native.Nat.{ℕ, ◌*◌, ◌<◌, ◌≤◌}
use native.Mathlib.Nat.{mul-le-mul}
use native.Mathlib.Omega.{arith}
use lib.ListN.{length, get_or}
use Rattle.ground.proofs.TestLaws.{both}
use Rattle.motion.specs.Frame.{Side}
use Rattle.motion.specs.Superblock.{superblocks_along, superblocks}
use Rattle.grid.specs.Grid.{Grid, room}
use Rattle.refusal.specs.Refusals.{refuse, ◌then◌, side_ok, planes_refusal, grids_hold}
use Rattle.refusal.proofs.RefusalLaws.{first-passed, passes, none_of, side_of, lent}
use Rattle.refusal.proofs.GridsLaws.{GridsHeld, grids_held}
use Rattle.estimate.specs.Inputs.{Planes, plane_at}
use Rattle.estimate.specs.Asked.{PlaneHeld}
use Rattle.order.specs.List.{most_superblocks, list_refusal}
use Rattle.order.proofs.Accepted.{accepted}
use Rattle.inter.specs.Runs.{lengths_of, run_tests}

-- the two planes of a level are long enough
pub record PlanesHeld (width height : ℕ) (current reference : Planes) (level : ℕ) : Type 0 where
  pub cur : PlaneHeld width height level (plane_at current level)
  pub ref : PlaneHeld width height level (plane_at reference level)

-- the test of the two planes of a level
abbrev pub lent_refusal : (width height : ℕ) (cur ref : Planes) (level : ℕ) → ℕ
lent_refusal width height cur ref level =
    planes_refusal width height level (length (plane_at cur level)) (length (plane_at ref level))

planes_held : (width height : ℕ) (cur ref : Planes) (level : ℕ) → lent_refusal width height cur ref level ≡ 0 → PlanesHeld width height cur ref level
planes_held width height cur ref level e =
    let lent = lent width height level (length (plane_at cur level)) (length (plane_at ref level)) e in
    record { cur = lent.cur; ref = lent.ref }

-- what refusals 1, 4 and 5 leave of a run
pub record RunReady (width height : ℕ) (cur ref : Planes) (present : ℕ) (prev g : Grid) : Type 0 where
  pub wide : Side width
  pub high : Side height
  pub quarter : PlanesHeld width height cur ref 4
  pub half : PlanesHeld width height cur ref 3
  pub full : PlanesHeld width height cur ref 2
  pub grids : GridsHeld width height present prev g

pub run-ready : (width height : ℕ) (cur ref : Planes) (present : ℕ) (prev g : Grid) → run_tests width height (lengths_of cur) (lengths_of ref) present (room prev) (room g) ≡ 0 → RunReady width height cur ref present prev g
unfolding run_tests lengths_of plane_at
run-ready width height cur ref present prev g e =
    let lent : ℕ → ℕ = lent_refusal width height cur ref in
    let grids = grids_hold width height present (room prev) (room g) in
    let one = first-passed 0 (side_ok width && side_ok height) (lent 4 then lent 3 then lent 2 then refuse 5 grids) e in
    let quarter = none_of (lent 4) (lent 3 then lent 2 then refuse 5 grids) one.1 in
    let half = none_of (lent 3) (lent 2 then refuse 5 grids) quarter.1 in
    let full = none_of (lent 2) (refuse 5 grids) half.1 in
    let sides = both (side_ok width) (side_ok height) one.0 in
    record {
      wide = side_of width sides.0;
      high = side_of height sides.1;
      quarter = planes_held width height cur ref 4 quarter.0;
      half = planes_held width height cur ref 3 half.0;
      full = planes_held width height cur ref 2 full.0;
      grids = grids_held width height present prev g (passes 4 grids full.1);
    }

-- a frame has 1 to 16 superblocks along each side
pub few-superblocks : {width height : ℕ} → Side width → Side height → (0 < superblocks_along width) × (superblocks_along width * superblocks_along height ≤ most_superblocks)
few-superblocks {width} {height} wide high =
    let most = mul-le-mul {n₁ = superblocks_along width} {m₁ = superblocks_along height} {n₂ = 16} {m₂ = 16} (omega (arith, wide.most)) (omega (arith, high.most)) in
    (omega (arith, wide.least), omega (arith, most))

-- what refusals 6 and 7 leave: the list names superblocks of the frame alone
pub list_inside : (width height : ℕ) (list : List ℕ) → list_refusal (superblocks_along width) (superblocks_along height) list ≡ 0 → (k : ℕ) → k < length list → get_or list k 0 < superblocks width height
unfolding superblocks
list_inside width height list e = (accepted (superblocks_along width) (superblocks_along height) list e).below
