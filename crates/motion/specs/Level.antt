-- The table of levels.
use Rattle.std.specs.Prelude.{ℕ, cond, eqb}
use Rattle.motion.specs.declared.level.Level.{Level}

-- | 4 | block 64 | shift 2 | pad 20 | none refined: its own size stands there |
abbrev pub level4 : Level
level4 = record { mv_size = 64; ssdec = 2; pad = 20; refined = 64 }

-- | 3 | block 32 | shift 1 | pad 40 | blocks of 64 |
abbrev pub level3 : Level
level3 = record { mv_size = 32; ssdec = 1; pad = 40; refined = 64 }

-- | 2 | block 16 | shift 0 | pad 48 | blocks of 32 |
abbrev pub level2 : Level
level2 = record { mv_size = 16; ssdec = 0; pad = 48; refined = 32 }

-- the row of a level's number
unfoldable pub level_of : ℕ → Level
level_of n = cond (eqb n 4) level4 (cond (eqb n 3) level3 level2)
