-- Which cells a superblock step writes, and which it may read.
use Rattle.std.specs.Prelude.{◌≡◌, Bool, true, ◌||◌, ◌⊎◌, ℕ, ◌<◌}
use Rattle.motion.specs.Limits.{superblock_side}
use Rattle.motion.specs.Superblock.{superblocks_along, superblocks, superblock_x, superblock_y}
use Rattle.grid.specs.Grid.{Grid, stats_at}
use Rattle.grid.specs.Save.{covers}
use Rattle.order.specs.List.{shares_edge}

-- a cell of superblock n, cropped at the frame
unfoldable pub own_cell : (width height n c : ℕ) → Bool
own_cell width height n c = covers width height superblock_side (superblock_x width n) (superblock_y width n) c

-- two superblocks that share an edge
unfoldable pub beside : ℕ → ℕ → ℕ → Bool
beside across a b = shares_edge across a b || shares_edge across b a

-- a cell that a step on superblock n may read: its own, or one of a superblock that shares an edge with it
pub record NearCell (width height n c : ℕ) : Type 0 where
  pub of : ℕ
  pub inside : of < superblocks width height
  pub near : (of ≡ n) ⊎ (beside (superblocks_along width) of n ≡ true)
  pub own : own_cell width height of c ≡ true

-- two grids that hold the same in every cell of a kind
abbrev pub AgreeOn : (ℕ → Type 0) → Grid → Grid → Type 0
AgreeOn Kind g h = (c : ℕ) → Kind c → stats_at g c ≡ stats_at h c
