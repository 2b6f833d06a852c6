-- Laws of a frame's cells: which numbers they have, and that the buffers of a grid reach them. Assumes nothing.
use Prim.Native.Nat.{ℕ, ◌+◌, ◌/◌, ◌<◌}
use native.Mathlib.Nat.{add-mul, mul_comm, mul-le-mul_right}
use native.Mathlib.Omega.{arith}
use lib.ListN.{length}
use Rattle.motion.specs.Limits.{cell_side}
use Rattle.grid.specs.Grid.{Grid, Held, cells, cell_at}

-- a column and a row inside the frame give one of its cells
pub cell-inside : (width height x y : ℕ) → x < width / cell_side → y < height / cell_side → cell_at width x y < cells width height
unfolding cells cell_at
cell-inside width height x y hx hy =
    let rows = mul-le-mul_right {m = y + 1} {n = height / cell_side} (width / cell_side) (omega arith) in
    omega (arith, rows, add-mul y 1 (width / cell_side), mul_comm (width / cell_side) (height / cell_side))

-- a cell of the frame is below the length of each buffer of a grid that holds its cells
pub reached : {width height i : ℕ} {g : Grid} → Held width height g → i < cells width height → (i < length g.rows) × (i < length g.cols) × (i < length g.sads)
reached held below = (omega (arith, held.rows), omega (arith, held.cols), omega (arith, held.sads))
