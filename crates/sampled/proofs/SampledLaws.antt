-- Laws of the cells that a block samples: where it ends, and how many there are. Assumes nothing.
use mathlib.Core.Bool.{Bool, true, false}
use Prim.Native.Nat.{ℕ, ◌+◌, ◌*◌, ◌/◌, ◌≤◌}
use native.Mathlib.Nat.{add-le-add}
use native.Mathlib.Omega.{arith}
use lib.ListN.{length, length-append}
use Rattle.motion.specs.Limits.{cell_side}
use Rattle.motion.specs.Level.{level_of}
use Rattle.motion.specs.Block.{cropped_to}
use Rattle.sampled.specs.Sampled.{cells_along, taken, neighbours, cells_b, cells_c}

-- a block in cells ends inside the grid
pub along_most : (side size b : ℕ) → cell_side * b ≤ side → b + cells_along side size b ≤ side / cell_side
unfolding cells_along cropped_to
along_most side size b h = omega arith

pub taken-few : (t : Bool) (i : ℕ) → length (taken t i) ≤ 1
unfolding taken
taken-few true i = omega arith
taken-few false i = omega arith

pub neighbours-few : (width height size bx by : ℕ) (right bottom : Bool) → length (neighbours width height size bx by right bottom) ≤ 4
unfolding neighbours
neighbours-few width height size bx by right bottom =
    simp length-append (add-le-add (add-le-add (add-le-add (taken-few _ _) (taken-few _ _)) (taken-few _ _)) (taken-few _ _))

module _ (width height level bx by : ℕ) where
  pub b-few : length (cells_b width height level bx by) ≤ 4
  unfolding cells_b
  b-few = neighbours-few width height _ bx by _ _

  pub c_few : (present : Bool) → length (cells_c width height level bx by present) ≤ 5
  unfolding cells_c
  c_few true = simp length-append (omega (arith, neighbours-few width height (level_of level).mv_size bx by true true))
  c_few false = omega arith
