-- Where samples lie in a padded plane.
use Rattle.std.specs.Prelude.{ℕ, ℤ, pos, nat_abs, ◌+ℤ◌, ◌*ℤ◌}
use Rattle.std.specs.Int.Signed.{quot_z}
use Rattle.motion.specs.declared.block.Block.{Block}
use Rattle.motion.specs.declared.vector.MotionVector.{MotionVector}
use Rattle.motion.specs.Limits.{eighths}

-- sample (x, y) is at (y+P)·stride + x+P
unfoldable pub sample_at : (stride pad : ℕ) (x y : ℤ) → ℕ
sample_at stride pad x y = nat_abs ((y +ℤ pos pad) *ℤ pos stride +ℤ (x +ℤ pos pad))

-- a coordinate plus row/8 or col/8, division toward zero
unfoldable pub moved : ℕ → ℤ → ℤ
moved po component = pos po +ℤ quot_z component (pos eighths)

-- where the block starts
unfoldable pub org_start : Block → ℕ
org_start b = sample_at b.stride b.pad (pos b.po_x) (pos b.po_y)

-- where the reference block of a vector starts
unfoldable pub ref_start : Block → MotionVector → ℕ
ref_start b v = sample_at b.stride b.pad (moved b.po_x v.col) (moved b.po_y v.row)
