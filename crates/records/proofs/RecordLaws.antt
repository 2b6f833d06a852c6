-- Laws of records: how long they are, and that records and cells give each other back. Assumes nothing.
use mathlib.Core.Path.{◌≡◌, sym, ap, ap₂, ◌∙◌}
use mathlib.Core.List.{List, ◌++◌}
use Prim.Native.Nat.{ℕ, ◌-◌, ◌≤◌, ◌<◌, ◌^◌}
use native.Mathlib.Omega.{arith}
use lib.IntN.{ℤ}
use lib.ListN.{length, take, length-append, take-append-drop}
use lib.Seq.{slice, take_all, take-take}
use mir.Syntax.{w16}
use mir.Val.{SFits, of_z, to_z}
use mir.ValLaws.{of_z_fits, to_z-of_z, to_z-Fits, of_z-to_z}
use Rattle.grid.specs.declared.cells.MEStats.{MEStats}
use Rattle.records.specs.Numbers.{OfBytes, bytes_of, number_of}
use Rattle.records.specs.Forms.{one_sad, mark, cell_bytes}
use Rattle.records.specs.Records.{cell_record, cell_of, FitsCell}
use Rattle.records.proofs.NumberLaws.{length-bytes, number-bytes, part-below, part-again}

pub length-cell : (c : MEStats) → length (cell_record one_sad c) ≡ cell_bytes
unfolding cell_record
length-cell c = simp (length-append, length-bytes)

-- a cell's record gives it back
word_back : (z : ℤ) → SFits w16 z → to_z w16 (number_of (bytes_of 2 (of_z w16 z))) ≡ z
word_back z f = ap (to_z w16) (number-bytes 2 (of_z w16 z) (of_z_fits w16 z f).fits) ∙ to_z-of_z w16 z f

pub cell-back : (c : MEStats) → FitsCell c → cell_of one_sad (cell_record one_sad c) ≡ c
unfolding cell_of cell_record bytes_of
cell-back c f =
    let row = word_back c.mv.row f.mv.row in
    let col = word_back c.mv.col f.mv.col in
    let sad = number-bytes 4 c.normalized_sad f.sad in
    λ i. record { mv = record { row = row i; col = col i }; normalized_sad = sad i }

-- eight bytes behind a mark are the record of a cell
module _ (bs : List ℕ) (eight : length bs ≡ 8) (h : OfBytes bs) where
  fits : (f t : ℕ) → t ≤ 8 → number_of (slice f t bs) < 256 ^ (t - f)
  fits f t le = part-below bs h f t (omega arith)

  pub cell-fits : FitsCell (cell_of one_sad (mark ++ bs))
  unfolding cell_of
  cell-fits =
      record {
        mv = record { row = to_z-Fits w16 _ (record { fits = fits 0 2 (omega arith) }); col = to_z-Fits w16 _ (record { fits = fits 2 4 (omega arith) }) };
        sad = fits 4 8 (omega arith);
      }

  again : (f t : ℕ) → t ≤ 8 → bytes_of (t - f) (number_of (slice f t bs)) ≡ slice f t bs
  again f t le = part-again bs h f t (omega arith)

  word_again : (n : ℕ) → n < 256 ^ 2 → bytes_of 2 (of_z w16 (to_z w16 n)) ≡ bytes_of 2 n
  word_again n small = ap (bytes_of 2) (of_z-to_z w16 n (record { fits = small }))

  joined : (n m : ℕ) → n ≤ m → take n bs ++ slice n m bs ≡ take m bs
  joined n m le = ap (λ (l : List ℕ). l ++ slice n m bs) (sym (take-take n m bs le)) ∙ take-append-drop n (take m bs)

  pub cell-again : cell_record one_sad (cell_of one_sad (mark ++ bs)) ≡ mark ++ bs
  unfolding cell_of cell_record
  cell-again =
      let row = word_again _ (fits 0 2 (omega arith)) ∙ again 0 2 (omega arith) in
      let col = word_again _ (fits 2 4 (omega arith)) ∙ again 2 4 (omega arith) in
      let words = ap₂ ◌++◌ row col ∙ joined 2 4 (omega arith) in
      let all = ap₂ ◌++◌ words (again 4 8 (omega arith)) ∙ joined 4 8 (omega arith) ∙ take_all 8 bs (omega arith) in
      ap (λ (l : List ℕ). mark ++ l) all
