-- Which frames, levels and blocks there are.
use Rattle.std.specs.Prelude.{◌≡◌, ℕ, ◌*◌, ◌/◌, ◌%◌, ◌≤◌, ◌<◌}
use Rattle.motion.specs.declared.level.Level.{Level}
use Rattle.motion.specs.Limits.{side_step, largest_side, cell_side}
use Rattle.motion.specs.Level.{level4, level3, level2}

-- width and height: multiples of 8, from 8 to 1,024
pub record Side (n : ℕ) : Type 0 where
  pub whole : n % side_step ≡ 0
  pub least : side_step ≤ n
  pub most : n ≤ largest_side

-- a block's start on one axis: the cell inside the frame, and 4·b a multiple of the block size
pub record Starts (side size b : ℕ) : Type 0 where
  pub inside : b < side / cell_side
  pub aligned : (cell_side * b) % size ≡ 0

-- the block sizes of the table: a level's own, and the refined ones of levels 3 and 2
pub data Sized : Level → ℕ → Type 0 where
  own4 : Sized level4 64
  own3 : Sized level3 32
  own2 : Sized level2 16
  refined3 : Sized level3 64
  refined2 : Sized level2 32

-- a block of a level's size, at cell (bx, by) of a frame
pub record Placed (width height : ℕ) (l : Level) (size bx by : ℕ) : Type 0 where
  pub wide : Side width
  pub high : Side height
  pub sized : Sized l size
  pub across : Starts width size bx
  pub down : Starts height size by
