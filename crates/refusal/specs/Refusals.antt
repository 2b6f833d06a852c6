-- The tests behind the refusals, of sides, level, block, planes and grid; the first that fails is the one that is given.
use Rattle.std.specs.Prelude.{ℕ, zero, suc, ◌*◌, ◌/◌, ◌%◌, Bool, ◌&&◌, ◌||◌, not, cond, leb, ltb, eqb}
use Rattle.motion.specs.Limits.{side_step, largest_side, cell_side}
use Rattle.motion.specs.Level.{level_of}
use Rattle.motion.specs.Block.{plane_of}
use Rattle.grid.specs.Grid.{cells, room}
use Rattle.grid.specs.Previous.{Previous}

-- a test that refuses with a number where it does not pass
unfoldable pub refuse : ℕ → Bool → ℕ
refuse number passes = cond passes 0 number

-- tests in the order of the numbers: the lowest that applies is returned, 0 being done
infixr 30 ◌then◌
unfoldable pub ◌then◌ : ℕ → ℕ → ℕ
zero then later = later
suc n then later = suc n

-- 1: a side is a multiple of 8, from 8 to 1,024
unfoldable pub side_ok : ℕ → Bool
side_ok n = eqb (n % side_step) 0 && (leb side_step n && leb n largest_side)

-- 2: level 2, 3 or 4; for refinement 2 or 3 (`refined` is 0 for no refinement)
unfoldable pub level_ok : ℕ → ℕ → Bool
level_ok level refined = eqb level 2 || (eqb level 3 || (eqb level 4 && eqb refined 0))

-- the block size that a call means
unfoldable pub size_of : ℕ → ℕ → ℕ
size_of level refined = cond (eqb refined 0) (level_of level).mv_size (level_of level).refined

-- 3: the block start is inside the frame, and 4·b is a multiple of the block size
unfoldable pub start_ok : ℕ → ℕ → ℕ → Bool
start_ok side size b = ltb b (side / cell_side) && eqb ((cell_side * b) % size) 0

-- 4: a plane is no shorter than stride times rows
unfoldable pub plane_ok : (width height level n : ℕ) → Bool
plane_ok width height level n =
    leb ((plane_of width height (level_of level)).stride * (plane_of width height (level_of level)).rows) n

-- the tests of a block of a frame
unfoldable pub block_refusal : (width height level refined bx by : ℕ) → ℕ
block_refusal width height level refined bx by =
    refuse 1 (side_ok width && side_ok height)
    then refuse 2 (level_ok level refined)
    then refuse 3 (start_ok width (size_of level refined) bx && start_ok height (size_of level refined) by)

-- the test of the two planes of a level, of n and m samples
unfoldable pub planes_refusal : (width height level n m : ℕ) → ℕ
planes_refusal width height level n m = refuse 4 (plane_ok width height level n && plane_ok width height level m)

-- the tests of a call with a block and the two planes of its level
unfoldable pub call_refusal : (width height level refined bx by n m : ℕ) → ℕ
call_refusal width height level refined bx by n m =
    block_refusal width height level refined bx by then planes_refusal width height level n m

-- 5: a grid with room for n cells is not too short; its shortest buffer counts
unfoldable pub grid_ok : (width height n : ℕ) → Bool
grid_ok width height n = leb (cells width height) n

-- 5: nor is a previous grid that is said to be present, with room for m; `present` is 0 for an absent one
unfoldable pub grids_hold : (width height present m n : ℕ) → Bool
grids_hold width height present m n = grid_ok width height n && (eqb present 0 || grid_ok width height m)

-- the same of a previous grid that is there or not
unfoldable pub grids_fit : (width height : ℕ) → Previous → (n : ℕ) → Bool
grids_fit width height prev n = grid_ok width height n && (not prev.present || grid_ok width height (room prev.grid))
