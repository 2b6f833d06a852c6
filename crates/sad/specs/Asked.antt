-- What inner functions ask of their callers: no rule of the documents.
use Rattle.std.specs.Prelude.{◌≡◌, true, ℕ, ◌+◌, ◌*◌, ◌≤◌, ◌<◌, ◌^◌, pos, ◌+ℤ◌}
use Rattle.std.specs.Int.Signed.{non_neg}
use Rattle.motion.specs.declared.block.Block.{Block}
use Rattle.motion.specs.declared.vector.MotionVector.{MotionVector}
use Rattle.motion.specs.Range.{in_range}
use Rattle.motion.specs.Asked.{Near}
use Rattle.sad.specs.Plane.{moved, org_start, ref_start}

-- each row of a block of w by h that starts at `start` lies inside n samples
abbrev pub Inside : (n start stride w h : ℕ) → Type 0
Inside n start stride w h = (y : ℕ) → y < h → start + y * stride + w ≤ n

-- no block is wider or higher than this
abbrev pub largest_block : ℕ
largest_block = 64

-- the reference block of a vector starts at no negative place
pub record Reaches (b : Block) (v : MotionVector) : Type 0 where
  pub left : non_neg (moved b.po_x v.col +ℤ pos b.pad) ≡ true
  pub up : non_neg (moved b.po_y v.row +ℤ pos b.pad) ≡ true

-- no place, pad or stride is larger than this
abbrev pub largest_place : ℕ
largest_place = 2 ^ 16

-- a block's numbers are of a frame's size
pub record Measured (b : Block) : Type 0 where
  pub across : b.po_x ≤ largest_place
  pub down : b.po_y ≤ largest_place
  pub pad : b.pad ≤ largest_place
  pub stride : b.stride ≤ largest_place
  pub wide : b.w ≤ largest_block
  pub high : b.h ≤ largest_block

-- the block, and the reference block of every vector in its range, lie inside n samples; such vectors keep the vector limit
pub record Lies (b : Block) (n : ℕ) : Type 0 where
  pub measured : Measured b
  pub near : (v : MotionVector) → in_range b.range v ≡ true → Near v
  pub org : Inside n (org_start b) b.stride b.w b.h
  pub reaches : (v : MotionVector) → in_range b.range v ≡ true → Reaches b v
  pub ref : (v : MotionVector) → in_range b.range v ≡ true → Inside n (ref_start b v) b.stride b.w b.h
