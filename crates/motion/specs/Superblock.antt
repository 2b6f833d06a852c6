-- Superblocks of 64, numbered from 0 in raster order.
use Rattle.std.specs.Prelude.{ℕ, ◌+◌, ◌-◌, ◌*◌, ◌/◌, ◌%◌}
use Rattle.motion.specs.Limits.{superblock_side, cell_side}

-- how many superblocks lie along a side, the last cropped at the frame edge
abbrev pub superblocks_along : ℕ → ℕ
superblocks_along side = (side + (superblock_side - 1)) / superblock_side

-- how many a frame has
unfoldable pub superblocks : ℕ → ℕ → ℕ
superblocks width height = superblocks_along width * superblocks_along height

-- the first cell of superblock n: its column
unfoldable pub superblock_x : ℕ → ℕ → ℕ
superblock_x width n = superblock_side / cell_side * (n % superblocks_along width)

-- and its row
unfoldable pub superblock_y : ℕ → ℕ → ℕ
superblock_y width n = superblock_side / cell_side * (n / superblocks_along width)
