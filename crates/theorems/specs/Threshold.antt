-- Request Five: the stop threshold and the one that the Rust holds give the same yes or no, so that no grid changes by it.
use Rattle.std.specs.Prelude.{◌≡◌, ℕ, ◌*◌, ◌≤◌, ltb}
use Rattle.motion.specs.declared.block.Block.{Block}
use Rattle.motion.specs.Level.{level_of}
use Rattle.motion.specs.Block.{block_of}
use Rattle.predict.specs.Predictors.{stop_threshold}
use Rattle.predict.specs.Threshold.{held_threshold}

-- a block of level 4, cropped ones too
abbrev pub block4 : (width height bx by : ℕ) → Block
block4 width height bx by = block_of width height (level_of 4) (level_of 4).mv_size bx by

-- whatever the minimum SAD, and for any SAD that samples up to `largest` can give
abbrev pub SameAnswer : ℕ → Type 0
SameAnswer largest =
    (width height bx by min_sad sad : ℕ) → let area = (block4 width height bx by).w * (block4 width height bx by).h in sad ≤ largest * area → ltb sad (held_threshold min_sad area) ≡ ltb sad (stop_threshold min_sad area)

pub record Thresholds : Type 0 where
  -- samples of 8 bits
  pub of-bytes : SameAnswer 255
  -- and of up to 12
  pub of-samples : (largest : ℕ) → largest ≤ 4095 → SameAnswer largest
  -- with no neighbour on a 16×16 block it is 80,530,896 and not 80,530,891
  pub of_none : (held_threshold 67108863 256 ≡ 80530896) × (stop_threshold 67108863 256 ≡ 80530891)
  -- 1,747,629 is the least minimum SAD of which they differ
  pub first : (held_threshold 1747629 0 ≡ 2097155) × (stop_threshold 1747629 0 ≡ 2097154)
