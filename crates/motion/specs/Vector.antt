-- Vectors are (row, col) in eighths of a pixel.
use Rattle.std.specs.Prelude.{ℕ, ◌^◌, ℤ, pos, ◌+ℤ◌, ◌*ℤ◌}
use Rattle.std.specs.Int.Signed.{shr_z, quot_z}
use Rattle.std.specs.Int.{w16}
use Rattle.std.proofs.Common.{SFits}
use Rattle.motion.specs.declared.vector.MotionVector.{MotionVector}

-- both components are signed 16-bit numbers
pub record FitsV (v : MotionVector) : Type 0 where
  pub row : SFits w16 v.row
  pub col : SFits w16 v.col

abbrev pub zero_v : MotionVector
zero_v = record { row = pos 0; col = pos 0 }

unfoldable pub plus_v : MotionVector → MotionVector → MotionVector
plus_v a b = record { row = a.row +ℤ b.row; col = a.col +ℤ b.col }

unfoldable pub times_v : MotionVector → ℤ → MotionVector
times_v v n = record { row = v.row *ℤ n; col = v.col *ℤ n }

-- arithmetic shift right by s
unfoldable pub shr_v : MotionVector → ℕ → MotionVector
shr_v v s = record { row = shr_z v.row (2 ^ s); col = shr_z v.col (2 ^ s) }

-- shift left by s
unfoldable pub shl_v : MotionVector → ℕ → MotionVector
shl_v v s = record { row = v.row *ℤ pos (2 ^ s); col = v.col *ℤ pos (2 ^ s) }

-- a component cut to whole pixels toward zero
unfoldable pub fullpel : ℤ → ℤ
fullpel z = quot_z z (pos 8) *ℤ pos 8

unfoldable pub fullpel_v : MotionVector → MotionVector
fullpel_v v = record { row = fullpel v.row; col = fullpel v.col }
