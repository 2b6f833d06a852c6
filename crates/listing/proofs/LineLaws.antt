-- Lines as bytes: how they are put, and how long they are. Assumes nothing.
use borrow.Author.Tests.{ltb-true, ltb-false}
use mathlib.Core.Path.{◌≡◌}
use mathlib.Core.Logic.{⊎_elim}
use mathlib.Core.List.{List, [], ◌∷◌}
use Prim.Native.Nat.{ℕ, suc, ◌+◌, ◌*◌, ◌/◌, ◌%◌, ◌^◌, ◌≤◌, ◌<◌}
use Prim.Native.Char.{code}
use native.Mathlib.Nat.{lt_of_lt_of_le, mod-lt, div-lt_iff_lt-mul}
use native.Mathlib.Omega.{arith}
use lib.Dec.{ltb}
use lib.ListN.{length, length-append}
use Rattle.ground.proofs.TestLaws.{tested}
use Rattle.grid.specs.declared.cells.MEStats.{MEStats}
use Rattle.records.specs.Records.{FitsCell}
use Rattle.text.specs.Decimal.{decimal, signed}
use Rattle.text.specs.declared.writer.Writer.{Writer}
use Rattle.text.specs.Put.{Puts}
use Rattle.text.proofs.PutLaws.{puts_behind}
use Rattle.text.proofs.DecimalLaws.{decimal-most, signed-most}
use Rattle.listing.specs.Parts.{across_most, cells_most, ◌␣◌, place_text, cell_text}

-- a text, a space and another text are put one behind the other
pub spaced : {a b : List ℕ} {t u v w : Writer} → Puts a t u → Puts (code " " ∷ []) u v → Puts b v w → Puts (a ␣ b) t w
spaced p q r = puts_behind p (puts_behind q r)

pub place_length : (across i : ℕ) → length (place_text across i) ≡ length (decimal (i % across)) + suc (length (decimal (i / across)))
unfolding place_text
place_length across i = simp length-append

pub cell_length : (c : MEStats) → length (cell_text c) ≡ length (signed c.mv.row) + suc (length (signed c.mv.col) + suc (length (decimal c.normalized_sad)))
unfolding cell_text
cell_length c = simp length-append

-- a 64-bit number has twenty digits at most
pub digits_most : (n : ℕ) → n < 18446744073709551616 → length (decimal n) ≤ 20
digits_most n h = decimal-most 19 n (omega arith)

-- the wider a grid of 1,048,576 cells, the fewer its rows: a column and a row have eight digits at most
module _ (across i : ℕ) (some : 0 < across) (wide : across ≤ across_most) (inside : i < cells_most) where
  digits : (a b : ℕ) → across ≤ 10 ^ suc a → cells_most ≤ 10 ^ suc b * across → length (place_text across i) ≤ suc a + suc (suc b)
  digits a b x y =
      let column = decimal-most a (i % across) (lt_of_lt_of_le (mod-lt i some) x) in
      let row = decimal-most b (i / across) ((div-lt_iff_lt-mul some).1 (lt_of_lt_of_le inside y)) in
      omega (arith, place_length across i)

  pub place_most : length (place_text across i) ≤ 9
  place_most =
      ⊎_elim (λ e. digits 0 6 (omega (arith, ltb-true across 11 e)) (omega arith))
      (λ e. ⊎_elim (λ d. digits 2 4 (omega (arith, ltb-true across 1001 d)) (omega (arith, ltb-false across 11 e)))
      (λ d. digits 3 3 (omega arith) (omega (arith, ltb-false across 1001 d))) (tested (ltb across 1001))) (tested (ltb across 11))

-- the longest text of a cell
pub cell_most : (c : MEStats) → FitsCell c → length (cell_text c) ≤ 24
cell_most c f =
    omega (arith, cell_length c, signed-most c.mv.row f.mv.row, signed-most c.mv.col f.mv.col, decimal-most 9 c.normalized_sad (omega (arith, f.sad)))
