-- The sum of absolute differences of a pair of blocks, whole and as far as a walk has come.
use Rattle.std.specs.Prelude.{ℕ, ◌+◌, ◌*◌}
use Rattle.sad.specs.declared.pair.BlockPair.{BlockPair}
use Rattle.sad.specs.Sad.{sad_row, sad_block}

-- the first y rows
abbrev pub rows_of : BlockPair → (y : ℕ) → ℕ
rows_of p y = sad_block p.cur.now p.src p.reference.now p.dst p.stride p.w y

-- the first x samples of row y
abbrev pub row_of : BlockPair → (y x : ℕ) → ℕ
row_of p y x = sad_row p.cur.now (p.src + y * p.stride) p.reference.now (p.dst + y * p.stride) x

-- w samples of row y, from column x on
abbrev pub run_of : BlockPair → (y x w : ℕ) → ℕ
run_of p y x w = sad_row p.cur.now (p.src + y * p.stride + x) p.reference.now (p.dst + y * p.stride + x) w

-- all rows
abbrev pub pair_sad : BlockPair → ℕ
pair_sad p = rows_of p p.h
