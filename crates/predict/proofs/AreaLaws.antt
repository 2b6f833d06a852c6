-- A block has at most 64 samples a side, and 4,096 in all; so its minimum SAD is small. Assumes nothing.
use Prim.Native.Nat.{ℕ, ◌*◌, ◌/◌, ◌^◌, ◌≤◌, ◌<◌}
use native.Mathlib.Nat.{mul-le-mul, mul-le-mul_left, div-le_self}
use native.Mathlib.Omega.{arith}
use Rattle.motion.specs.declared.level.Level.{Level}
use Rattle.motion.specs.Limits.{largest_side}
use Rattle.motion.specs.Level.{level_of}
use Rattle.motion.specs.Block.{cropped_to, block_of}
use Rattle.motion.proofs.LevelLaws.{each_level}
use Rattle.predict.specs.Predictors.{minimum_sad}

-- what a block asks of its level
pub level-small : (level : ℕ) → ((level_of level).ssdec < 16) × ((level_of level).pad ≤ largest_side) × ((level_of level).mv_size ≤ 64)
level-small level =
    each_level (λ (l : Level). (l.ssdec < 16) × (l.pad ≤ largest_side) × (l.mv_size ≤ 64)) (omega arith) (omega arith) (omega arith) level

cropped_small : (side size b s : ℕ) → size ≤ 64 → cropped_to side size b / 2 ^ s ≤ 64
unfolding cropped_to
cropped_small side size b s h = omega (arith, div-le_self (cropped_to side size b) (2 ^ s))

pub block_area : (width height level bx by : ℕ)
    → (block_of width height (level_of level) (level_of level).mv_size bx by).w * (block_of width height (level_of level) (level_of level).mv_size bx by).h ≤ 4096
unfolding block_of
block_area width height level bx by =
    let l = level_of level in
    let small = (level-small level).2 in
    mul-le-mul (cropped_small width l.mv_size bx l.ssdec small) (cropped_small height l.mv_size by l.ssdec small)

pub minimum_small : (least area : ℕ) → least < 2 ^ 32 → area ≤ 4096 → minimum_sad least area ≤ 2 ^ 30
unfolding minimum_sad
minimum_small least area h k = omega (arith, mul-le-mul_left least k)
