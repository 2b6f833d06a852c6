-- Laws of a record that starts at some place among bytes: its mark, and what it consists of. Assumes nothing.
use mathlib.Core.Path.{◌≡◌, sym, ap, ap₂, ◌∙◌}
use mathlib.Core.Bool.{Bool, true, ◌&&◌}
use mathlib.Core.List.{List, ◌∷◌, ◌++◌}
use Prim.Native.Nat.{ℕ, suc, ◌+◌, ◌≤◌}
use native.Mathlib.Omega.{arith}
use lib.ListN.{length, get_or, take, drop, length-drop, take-append-drop}
use lib.Seq.{slice, drop-cons, drop-drop, length-take-le, take_at}
use Rattle.ground.proofs.TestLaws.{both}
use Rattle.ground.proofs.ListLaws.{take-drop}
use Rattle.records.specs.Forms.{mark, cell_bytes}
use Rattle.gridfile.specs.Reading.{marked}
use Rattle.gridfile.proofs.TakenLaws.{first_byte, second-byte}

-- whether it starts with the mark
abbrev pub marked_at : List ℕ → ℕ → Bool
marked_at bytes p = marked mark 0 (get_or bytes p 0) && marked mark 1 (get_or bytes (p + 1) 0)

-- a cell's record all of whose bytes are there
module _ (bytes : List ℕ) (p : ℕ) (there : p + cell_bytes ≤ length bytes) where
  abbrev pub eight : List ℕ
  eight = take 8 (drop (suc (suc p)) bytes)

  abbrev pub behind : List ℕ
  behind = drop (p + cell_bytes) bytes

  pub eight_long : length eight ≡ 8
  eight_long = length-take-le 8 (drop (suc (suc p)) bytes) (omega (arith, length-drop (suc (suc p)) bytes))

  pub two-eight : drop p bytes ≡ get_or bytes p 0 ∷ get_or bytes (p + 1) 0 ∷ (eight ++ behind)
  two-eight =
      let ten : suc (suc p) + 8 ≡ p + cell_bytes = omega arith in
      let one : suc p ≡ p + 1 = omega arith in
      drop-cons bytes p 0 (omega arith) ∙ ap (λ (l : List ℕ). get_or bytes p 0 ∷ l) (drop-cons bytes (suc p) 0 (omega arith))
      ∙ ap₂ (λ (b : ℕ) (l : List ℕ). get_or bytes p 0 ∷ b ∷ l) (ap (λ (n : ℕ). get_or bytes n 0) one) (sym (take-append-drop 8 (drop (suc (suc p)) bytes)) ∙ ap (λ (l : List ℕ). eight ++ l) (drop-drop 8 (suc (suc p)) bytes ∙ ap (λ (n : ℕ). drop n bytes) ten))

  module _ (ok : marked_at bytes p ≡ true) where
    pub record_at_lem : drop p bytes ≡ (mark ++ eight) ++ behind
    record_at_lem =
        let halves = both (marked mark 0 (get_or bytes p 0)) (marked mark 1 (get_or bytes (p + 1) 0)) ok in
        two-eight ∙ ap₂ (λ (a b : ℕ). a ∷ b ∷ (eight ++ behind)) (first_byte _ halves.0) (second-byte _ halves.1)

    pub record_bytes_lem : slice p (p + cell_bytes) bytes ≡ mark ++ eight
    record_bytes_lem =
        sym (take-drop p cell_bytes bytes) ∙ ap (take cell_bytes) record_at_lem ∙ take_at (mark ++ eight) behind cell_bytes (omega (arith, eight_long))
