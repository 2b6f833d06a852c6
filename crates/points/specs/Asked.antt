-- What inner functions ask of their callers: no rule of the documents.
use Rattle.std.specs.Prelude.{◌≡◌, true, ℕ, ◌≤◌, ℤ, pos, neg_ℤ, ◌+ℤ◌}
use Rattle.std.specs.Int.Signed.{mag, le_z}
use Rattle.motion.specs.declared.vector.MotionVector.{MotionVector}
use Rattle.points.specs.declared.patterns.Pattern.{Pattern}
use Rattle.points.specs.declared.patterns.Pattern.TheVariants.{Diamond, Square, RowLine, ColLine, Eighths, Umh}

-- a diamond has radius 1 or 2 pixels
unfoldable pub Plain : Pattern → Type 0
Plain (Diamond r) = r ≤ 1
Plain Square = Unit {0}
Plain RowLine = Unit {0}
Plain ColLine = Unit {0}
Plain Eighths = Unit {0}
Plain Umh = Unit {0}

-- an offset of at most four pixels, as every table's are
pub record Slight (v : MotionVector) : Type 0 where
  pub row : mag v.row ≤ 32
  pub col : mag v.col ≤ 32

-- offsets of whole pixels that 16 bits hold in eighths
pub record Spanned (lo : ℤ) (k : ℕ) : Type 0 where
  pub least : le_z (neg_ℤ (pos 4096)) lo ≡ true
  pub most : le_z (lo +ℤ pos k) (pos 4095) ≡ true
  pub few : k ≤ 8192
