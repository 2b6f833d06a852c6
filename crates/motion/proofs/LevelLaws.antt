-- What holds of each row of the level table. Assumes nothing.
use mathlib.Core.Bool.{Bool, true, false, cond}
use Prim.Native.Nat.{ℕ}
use lib.Dec.{eqb}
use Rattle.motion.specs.declared.level.Level.{Level}
use Rattle.motion.specs.Level.{level4, level3, level2, level_of}

pub each_level : (P : Level → Type 0) → P level4 → P level3 → P level2 → (n : ℕ) → P (level_of n)
unfolding level_of
each_level P p4 p3 p2 n = go (eqb n 4) (eqb n 3)
  where
    go : (s t : Bool) → P (cond s level4 (cond t level3 level2))
    go true t = p4
    go false true = p3
    go false false = p2
