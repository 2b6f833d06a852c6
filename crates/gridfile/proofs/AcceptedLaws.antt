-- Laws of files that are read to their end: what stands in one that nothing is wrong with. Assumes nothing.
use mathlib.Core.Path.{◌≡◌, refl, sym, ap, ap₂, ◌∙◌}
use mathlib.Core.Bool.{true, false}
use mathlib.Core.List.{List, [], ◌∷◌, ◌++◌}
use mathlib.Core.Logic.{⊎_elim}
use Prim.Native.Nat.{ℕ, suc, ◌+◌, ◌*◌, ◌≤◌, ◌<◌}
use native.Mathlib.Omega.{arith}
use native.Mathlib.Nat.{eq-or-lt_of_le}
use borrow.Author.Tests.{lt-ltb, le-ltb, le-leb, lt-leb, ne_eqb}
use lib.ListN.{length, take, drop, length-append, take-append-drop}
use lib.Seq.{length-take-le}
use Rattle.ground.proofs.TestLaws.{tested}
use Rattle.refusal.specs.Refusals.{refuse, ◌then◌}
use Rattle.records.specs.Forms.{mark, cell_bytes}
use Rattle.gridfile.specs.Reading.{State, head_of, between, refused_at, begun, marked, next, taken, whole, ended}
use Rattle.gridfile.proofs.TakenLaws.{refused-stays, first_byte, second-byte, at, at-wrong, at_more}

-- a refusal is the answer, whatever follows
pub refused-ends : (room : ℕ) (s : State) (n : ℕ) (bytes : List ℕ) → ended (taken room (refused_at s (suc n)) bytes) ≡ suc n
unfolding refused_at ended ◌then◌
refused-ends room s n bytes = ap ended (refused-stays room (refused_at s (suc n)) (λ e. absurd (omega arith)) bytes)

-- at a cell that is still to come
module _ (room columns rows k : ℕ) (wide : 0 < columns) (more : k < columns * rows) where
  -- the bytes have run out
  pub runs_out : (bytes : List ℕ) → ended (at room columns rows k wide more bytes) ≡ 11
  unfolding ended whole begun refuse ◌then◌
  runs_out bytes = rw (lt-leb (columns * rows) k more) (rw (lt-ltb 0 columns wide))

  -- a wrong byte of the mark
  pub wrong_mark : (bytes tail : List ℕ) (b : ℕ) → marked mark (length bytes) b ≡ false → ended (taken room (at room columns rows k wide more bytes) (b ∷ tail)) ≡ 10
  unfolding taken
  wrong_mark bytes tail b wrong =
      ap (λ (s : State). ended (taken room s tail)) (at-wrong room columns rows k wide more bytes b wrong)
      ∙ refused-ends room (at room columns rows k wide more bytes) 9 tail

  -- read to the end with 0, its record is whole and its mark is right
  good : (bytes tail : List ℕ) (b : ℕ) → ended (taken room (at room columns rows k wide more bytes) (b ∷ tail)) ≡ 0 → marked mark (length bytes) b ≡ true
  good bytes tail b e =
      ⊎_elim (λ ok. ok) (λ wrong. absurd (omega (arith, e, wrong_mark bytes tail b wrong))) (tested (marked mark (length bytes) b))

  long : (bytes tail : List ℕ) → suc (length bytes) ≤ cell_bytes → ended (taken room (at room columns rows k wide more bytes) tail) ≡ 0 → cell_bytes ≤ length bytes + length tail
  unfolding taken
  long bytes [] few e = absurd (omega (arith, e, runs_out bytes))
  long bytes (b ∷ tail) few e =
      let count = length-append bytes (b ∷ []) in
      ⊎_elim (λ full. omega arith)
      (λ fewer. omega (arith, count, long (bytes ++ b ∷ []) tail (omega (arith, count)) (ap (λ (s : State). ended (taken room s tail)) (sym (at_more room columns rows k wide more bytes b (good bytes tail b e) fewer)) ∙ e)))
      (eq-or-lt_of_le few)

-- a record's mark and its eight bytes more, and what follows
pub record Splits (bytes : List ℕ) : Type 0 where
  pub eight : List ℕ
  pub tail : List ℕ
  pub full : length eight ≡ 8
  pub parts : bytes ≡ (mark ++ eight) ++ tail

module _ (room columns rows k : ℕ) (wide : 0 < columns) (more : k < columns * rows) where
  pub accepted-record : (bytes : List ℕ) → ended (taken room (between (head_of columns rows) k) bytes) ≡ 0 → Splits bytes
  unfolding begun taken
  accepted-record [] e = absurd (omega (arith, long room columns rows k wide more [] [] (omega arith) e))
  accepted-record (a ∷ []) e = absurd (omega (arith, long room columns rows k wide more [] (a ∷ []) (omega arith) e))
  accepted-record (a ∷ b ∷ rest) e =
      let count = long room columns rows k wide more [] (a ∷ b ∷ rest) (omega arith) e in
      let a-ok = good room columns rows k wide more [] (b ∷ rest) a e in
      let first = at_more room columns rows k wide more [] a a-ok (omega arith) in
      let b-ok = good room columns rows k wide more (a ∷ []) rest b (ap (λ (s : State). ended (taken room (next room s b) rest)) (sym first) ∙ e) in
      record {
        eight = take 8 rest;
        tail = drop 8 rest;
        full = length-take-le 8 rest (omega arith);
        parts = ap₂ (λ (x y : ℕ). x ∷ y ∷ rest) (first_byte a a-ok) (second-byte b b-ok) ∙ ap (λ (bytes : List ℕ). 0x4C ∷ 0x47 ∷ bytes) (sym (take-append-drop 8 rest));
      }

-- after the last cell, a byte is one too many
module _ (room columns rows : ℕ) (wide : 0 < columns) where
  pub left_over : (b : ℕ) (bytes : List ℕ) → ended (taken room (between (head_of columns rows) (columns * rows)) (b ∷ bytes)) ≡ 11
  unfolding taken next
  left_over b bytes =
      ap (λ (s : State). ended (taken room s bytes)) (rw (ne_eqb columns 0 (λ e. absurd (omega arith))) (rw (le-ltb (columns * rows) (columns * rows) (omega arith))))
      ∙ refused-ends room (between (head_of columns rows) (columns * rows)) 10 bytes

  pub all_there : ended (between (head_of columns rows) (columns * rows)) ≡ 0
  unfolding ended whole refuse ◌then◌
  all_there = rw (lt-ltb 0 columns wide) (rw (le-leb (columns * rows) (columns * rows) (omega arith)))

  pub accepted-end : (bytes : List ℕ) → ended (taken room (between (head_of columns rows) (columns * rows)) bytes) ≡ 0 → bytes ≡ []
  accepted-end [] e = refl
  accepted-end (b ∷ bytes) e = absurd (omega (arith, e, left_over b bytes))
