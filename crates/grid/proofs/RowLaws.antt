-- Laws of a block saved row by row: no row is no cell, a row is a run of cells, and all rows are the block. Assumes nothing.
use mathlib.Core.Path.{◌≡◌, sym, ap, ap₂, ◌∙◌}
use mathlib.Core.Bool.{Bool, true, false, ◌&&◌, ◌||◌, and-false, and-or_distrib_left}
use Prim.Native.Nat.{ℕ, ◌+◌, ◌-◌, ◌*◌, ◌/◌, ◌%◌, ◌≤◌, ◌<◌, min}
use native.Mathlib.Nat.{add-mul, mod-lt, div-add-mod', div-eq_of_lt-le}
use native.Mathlib.Omega.{arith}
use borrow.Author.Tests.{ltb-true, lt-ltb}
use lib.Dec.{ltb}
use Rattle.ground.proofs.TestLaws.{both, same}
use Rattle.motion.specs.Limits.{cell_side}
use Rattle.grid.specs.declared.cells.MEStats.{MEStats}
use Rattle.grid.specs.Grid.{Grid, cells, cell_at}
use Rattle.grid.specs.Save.{save_where, up_to, covers, save_block}
use Rattle.grid.proofs.CellLaws.{cell-inside}
use Rattle.grid.proofs.SaveLaws.{up-to_true, true-up_to, up-to_none, up-to_joins, save_none, save_joins, same_test}

-- an end that the frame crops
cropped_test : (low high end n : ℕ) → up_to low (min high end) n ≡ (up_to low high n && ltb n end)
cropped_test low high end n = same _ _ cropped whole
  where
    cropped : up_to low (min high end) n ≡ true → up_to low high n && ltb n end ≡ true
    cropped e = let h = up-to_true low (min high end) n e in ap₂ ◌&&◌ (true-up_to low high n h.0 (omega arith)) (lt-ltb n end (omega arith))

    whole : up_to low high n && ltb n end ≡ true → up_to low (min high end) n ≡ true
    whole e =
        let halves = both (up_to low high n) (ltb n end) e in
        let h = up-to_true low high n halves.0 in
        let less = ltb-true n end halves.1 in
        true-up_to low (min high end) n h.0 (omega arith)

-- a row of the frame's cells ends inside the grid
pub row_inside : (width height x y : ℕ) → 0 < x → x ≤ width / cell_side → y < height / cell_side → cell_at width x y ≤ cells width height
unfolding cell_at
row_inside width height x y some p q = omega (arith, cell-inside width height (x - 1) y (omega arith) q)

module _ (width size bx : ℕ) where
  -- the cells of a block's columns in the rows from `low` up to `high`
  pub rows_up_to : ℕ → ℕ → ℕ → Bool
  rows_up_to low high i = up_to bx (bx + size / cell_side) (i % (width / cell_side)) && up_to low high (i / (width / cell_side))

  none_test : (low i : ℕ) → rows_up_to low low i ≡ false
  unfolding rows_up_to
  none_test low i = ap (λ (t : Bool). up_to bx (bx + size / cell_side) (i % (width / cell_side)) && t) (up-to_none low (i / (width / cell_side))) ∙ and-false (up_to bx (bx + size / cell_side) (i % (width / cell_side)))

  next-test : (low y : ℕ) → low ≤ y → (i : ℕ) → rows_up_to y (y + 1) i || rows_up_to low y i ≡ rows_up_to low (y + 1) i
  unfolding rows_up_to
  next-test low y p i =
      sym (and-or_distrib_left (up_to bx (bx + size / cell_side) (i % (width / cell_side))) (up_to y (y + 1) (i / (width / cell_side))) (up_to low y (i / (width / cell_side))))
      ∙ ap (λ (t : Bool). up_to bx (bx + size / cell_side) (i % (width / cell_side)) && t) (up-to_joins low y (y + 1) (i / (width / cell_side)) p (omega arith))

  -- where the block's cells end in a row, cropped at the frame
  abbrev right : ℕ
  right = min (bx + size / cell_side) (width / cell_side)

  run-test : (y : ℕ) → bx < width / cell_side → (i : ℕ) → up_to (cell_at width bx y) (cell_at width right y) i ≡ rows_up_to y (y + 1) i
  unfolding cell_at rows_up_to
  run-test y inside i = same _ _ in_row in_run
    where
      in_row : up_to (y * (width / cell_side) + bx) (y * (width / cell_side) + right) i ≡ true → rows_up_to y (y + 1) i ≡ true
      in_row e =
          let w = width / cell_side in
          let h = up-to_true (y * w + bx) (y * w + right) i e in
          let row : i / w ≡ y = div-eq_of_lt-le w {m = i} (omega arith) (omega (arith, add-mul y 1 w)) in
          let whole : y * w + i % w ≡ i = ap (λ (n : ℕ). n * w + i % w) (sym row) ∙ div-add-mod' i w in
          ap₂ ◌&&◌ (true-up_to bx (bx + size / cell_side) (i % w) (omega arith) (omega arith)) (true-up_to y (y + 1) (i / w) (omega arith) (omega arith))

      in_run : rows_up_to y (y + 1) i ≡ true → up_to (y * (width / cell_side) + bx) (y * (width / cell_side) + right) i ≡ true
      in_run e =
          let w = width / cell_side in
          let halves = both (up_to bx (bx + size / cell_side) (i % w)) (up_to y (y + 1) (i / w)) e in
          let h = up-to_true bx (bx + size / cell_side) (i % w) halves.0 in
          let h' = up-to_true y (y + 1) (i / w) halves.1 in
          let row : i / w ≡ y = omega arith in
          let whole : y * w + i % w ≡ i = ap (λ (n : ℕ). n * w + i % w) (sym row) ∙ div-add-mod' i w in
          let less : i % w < w = mod-lt i (omega arith) in
          true-up_to _ _ i (omega arith) (omega arith)

  all_test : (height by i : ℕ) → rows_up_to by (min (by + size / cell_side) (height / cell_side)) i ≡ covers width height size bx by i
  unfolding rows_up_to covers
  all_test height by i = ap (λ (t : Bool). up_to bx (bx + size / cell_side) (i % (width / cell_side)) && t) (cropped_test by (by + size / cell_side) (height / cell_side) (i / (width / cell_side)))

  module _ (by : ℕ) (stats : MEStats) (g : Grid) where
    pub rows_none : save_where (rows_up_to by by) stats g ≡ g
    rows_none = save_none (rows_up_to by by) stats g (none_test by)

    pub rows_next : (y from to : ℕ) (h k : Grid) → by ≤ y → bx < width / cell_side → from ≡ cell_at width bx y → to ≡ cell_at width right y → h ≡ save_where (rows_up_to by y) stats g → k ≡ save_where (up_to from to) stats h → k ≡ save_where (rows_up_to by (y + 1)) stats g
    rows_next y from to h k p inside first end before after =
        after
        ∙ ap₂ (λ (f t : ℕ). save_where (up_to f t) stats h) first end
        ∙ same_test _ _ stats h (run-test y inside)
        ∙ ap (save_where (rows_up_to y (y + 1)) stats) before
        ∙ save_joins (rows_up_to y (y + 1)) (rows_up_to by y) stats g
        ∙ same_test _ _ stats g (next-test by y p)

    pub rows_all : (height : ℕ) → save_where (rows_up_to by (min (by + size / cell_side) (height / cell_side))) stats g ≡ save_block width height size bx by stats g
    unfolding save_block
    rows_all height = same_test _ _ stats g (all_test height by)
