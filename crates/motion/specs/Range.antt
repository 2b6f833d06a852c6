-- The range of a block at cell (bx, by), bw by bh full-size pixels.
use Rattle.std.specs.Prelude.{ℕ, ◌*◌, ◌^◌, Bool, ◌&&◌, ℤ, pos, neg_ℤ, ◌+ℤ◌, ◌-ℤ◌, ◌*ℤ◌}
use Rattle.std.specs.Int.Signed.{le_z, shr_z}
use mir.Val.{sel}
use Rattle.motion.specs.declared.vector.MotionVector.{MotionVector}
use Rattle.motion.specs.declared.range.MvRange.{MvRange}
use Rattle.motion.specs.Limits.{vector_limit}

-- the minimum: −32bx − 128 − 8bw, and rows likewise
unfoldable pub mv_min : ℕ → ℕ → ℤ
mv_min b size = neg_ℤ (pos (32 * b)) -ℤ pos 128 -ℤ pos (8 * size)

-- the maximum: 32(W/4 − bx) − 8bw + 128 + 8bw, and rows likewise
unfoldable pub mv_max : (cells b size : ℕ) → ℤ
mv_max cells b size = pos 32 *ℤ (pos cells -ℤ pos b) -ℤ pos (8 * size) +ℤ pos 128 +ℤ pos (8 * size)

-- clip to −16,383..16,383
unfoldable pub clip : ℤ → ℤ
clip z =
    sel (le_z z (neg_ℤ (pos vector_limit))) (neg_ℤ (pos vector_limit)) (sel (le_z z (pos vector_limit)) z (pos vector_limit))

-- both ends of columns and rows, clipped, then shifted right by s, arithmetically; the frame has W/4 columns and H/4 rows of cells
unfoldable pub range_of : (columns rows bx by bw bh s : ℕ) → MvRange
range_of columns rows bx by bw bh s =
    record {
      mvx_min = shr_z (clip (mv_min bx bw)) (2 ^ s);
      mvx_max = shr_z (clip (mv_max columns bx bw)) (2 ^ s);
      mvy_min = shr_z (clip (mv_min by bh)) (2 ^ s);
      mvy_max = shr_z (clip (mv_max rows by bh)) (2 ^ s);
    }

-- a number between two others, both ends included
unfoldable pub within : (low x high : ℤ) → Bool
within low x high = le_z low x && le_z x high

-- whether a vector is in a range
unfoldable pub in_range : MvRange → MotionVector → Bool
in_range r v = within r.mvx_min v.col r.mvx_max && within r.mvy_min v.row r.mvy_max
