-- Laws of a walk over a pair of blocks: one row more, one run more, and that no part is more than the whole. Assumes nothing.
use mathlib.Core.Path.{◌≡◌, ap₂}
use Prim.Native.Nat.{ℕ, ◌+◌, ◌*◌, ◌≤◌, ◌<◌}
use native.Mathlib.Nat.{add-zero}
use Rattle.sad.specs.declared.pair.BlockPair.{BlockPair}
use Rattle.sad.specs.Sad.{sad_row}
use Rattle.sad.specs.Pair.{rows_of, row_of, run_of, pair_sad}
use Rattle.sad.proofs.Sums.{block_none, block_more, block_part, rows-part, row-none, row-then}

module _ (p : BlockPair) where
  pub no_rows : rows_of p 0 ≡ 0
  no_rows = block_none p.cur.now p.src p.reference.now p.dst p.stride p.w

  pub row_more : (y : ℕ) → rows_of p (y + 1) ≡ rows_of p y + row_of p y p.w
  row_more y = block_more p.cur.now p.src p.reference.now p.dst p.stride p.w y

  pub no_samples : (y : ℕ) → row_of p y 0 ≡ 0
  no_samples y = row-none p.cur.now (p.src + y * p.stride) p.reference.now (p.dst + y * p.stride)

  pub run_more : (y x w : ℕ) → row_of p y (x + w) ≡ row_of p y x + run_of p y x w
  run_more y x w = row-then p.cur.now (p.src + y * p.stride) p.reference.now (p.dst + y * p.stride) x w

  -- a run from the first column on
  pub run_first : (y w : ℕ) → run_of p y 0 w ≡ row_of p y w
  run_first y w = ap₂ (λ (s d : ℕ). sad_row p.cur.now s p.reference.now d w) (add-zero (p.src + y * p.stride)) (add-zero (p.dst + y * p.stride))

  pub rows_le : (y : ℕ) → y ≤ p.h → rows_of p y ≤ pair_sad p
  rows_le y h = rows-part p.cur.now p.src p.reference.now p.dst p.stride p.w p.h y h

  pub samples_le : (y x : ℕ) → y < p.h → x ≤ p.w → rows_of p y + row_of p y x ≤ pair_sad p
  samples_le y x above within = block_part p.cur.now p.src p.reference.now p.dst p.stride p.w p.h y x above within
