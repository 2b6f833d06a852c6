-- Laws of what the header leaves: a number that is the file's, or the cells to come. Assumes nothing.
use mathlib.Core.Path.{◌≡◌, refl, sym, ap, ap₂, ◌∙◌}
use mathlib.Core.Bool.{true, ◌&&◌}
use mathlib.Core.List.{List, [], ◌∷◌, ◌++◌}
use mathlib.Core.Logic.{⊎_elim}
use Prim.Native.Nat.{ℕ, ◌+◌, ◌*◌, ◌%◌, ◌≤◌}
use native.Mathlib.Nat.{eq-zero-or-pos}
use native.Mathlib.Omega.{arith}
use borrow.Author.Tests.{eqb-true, leb-true}
use lib.Dec.{leb, eqb}
use lib.ListN.{take}
use Rattle.ground.proofs.TestLaws.{tested, both}
use Rattle.refusal.specs.Refusals.{refuse, ◌then◌}
use Rattle.refusal.proofs.RefusalLaws.{first-passed, passes, then_first}
use Rattle.grid.specs.Grid.{Grid}
use Rattle.records.specs.Forms.{mark}
use Rattle.gridfile.specs.Reading.{State, head_of, between, start, refused_at, begun, marked, header_end, taken, emitted, kept, whole, ended}
use Rattle.gridfile.proofs.EmittedLaws.{placed_same}
use Rattle.gridfile.proofs.TakenLaws.{refused-stays, first_byte, second-byte}
use Rattle.gridfile.proofs.HeaderLaws.{head_number, state_number, head, first-wrong, first_taken, second-wrong, second-taken, third_taken, fourth_taken, header-emitted, number-refused, number-begun, number-ended}

-- a header with a wrong mark, one whose bytes run out, and a whole one
data Headed (room : ℕ) (file : List ℕ) : Type 0 where
  wrong : taken room start file ≡ refused_at start 10 → head_number room file ≡ 10 → Headed room file
  short : (bytes : List ℕ) → taken room start file ≡ head bytes → head_number room file ≡ 11 → Headed room file
  full : (c d : ℕ) (tail : List ℕ) → file ≡ mark ++ c ∷ d ∷ tail → head_number room file ≡ (header_end room (head_of (c + 1) (d + 1))).code → Headed room file

module _ (room : ℕ) where
  marked-head : (a b : ℕ) (rest : List ℕ) → marked mark 0 a ≡ true → marked mark 1 b ≡ true → Headed room (a ∷ b ∷ rest)
  unfolding taken
  marked-head a b [] e f =
      let s = second-taken room a e b f [] in
      short (a ∷ b ∷ []) s (ap state_number s ∙ number-begun (a ∷ b ∷ []))
  marked-head a b (c ∷ []) e f =
      let s = third_taken room a e b f c [] in
      short (a ∷ b ∷ c ∷ []) s (ap state_number s ∙ number-begun (a ∷ b ∷ c ∷ []))
  marked-head a b (c ∷ d ∷ rest) e f =
      full c d rest (ap₂ (λ (x y : ℕ). x ∷ y ∷ c ∷ d ∷ rest) (first_byte a e) (second-byte b f)) (ap state_number (fourth_taken room a e b f c d []) ∙ number-ended room c d)

  begun-head : (a : ℕ) (rest : List ℕ) → marked mark 0 a ≡ true → Headed room (a ∷ rest)
  unfolding taken
  begun-head a [] e =
      let s = first_taken room a e [] in
      short (a ∷ []) s (ap state_number s ∙ number-begun (a ∷ []))
  begun-head a (b ∷ rest) e =
      ⊎_elim (λ f. marked-head a b rest e f)
      (λ f. wrong (second-wrong room a e b rest f) (ap state_number (second-wrong room a e b (take 2 rest) f) ∙ number-refused))
      (tested (marked mark 1 b))

  headed : (file : List ℕ) → Headed room file
  unfolding taken begun
  headed [] = short [] refl (number-begun [])
  headed (a ∷ rest) =
      ⊎_elim (λ e. begun-head a rest e)
      (λ e. wrong (first-wrong room a rest e) (ap state_number (first-wrong room a (take 3 rest) e) ∙ number-refused))
      (tested (marked mark 0 a))

  -- a number other than 0 is the file's
  ended-wrong : ended (refused_at start 10) ≡ 10
  unfolding ended refused_at ◌then◌
  ended-wrong = refl

  ended-short : (bytes : List ℕ) → ended (head bytes) ≡ 11
  unfolding ended whole begun refuse ◌then◌
  ended-short bytes = refl

  whole-header : (c d : ℕ) (tail : List ℕ) → taken room start (mark ++ c ∷ d ∷ tail) ≡ taken room (header_end room (head_of (c + 1) (d + 1))) tail
  unfolding marked
  whole-header c d tail = fourth_taken room 0x4C refl 0x47 refl c d tail

  refused-by : (file : List ℕ) → Headed room file → (head_number room file ≡ 0 → ⊥) → ended (taken room start file) ≡ head_number room file
  unfolding ended
  refused-by file (wrong s n) bad = ap ended s ∙ ended-wrong ∙ sym n
  refused-by file (short bytes s n) bad = ap ended s ∙ ended-short bytes ∙ sym n
  refused-by file (full c d tail parts n) bad =
      let done = header_end room (head_of (c + 1) (d + 1)) in
      let code : done.code ≡ 0 → ⊥ = λ z. bad (n ∙ z) in
      ap ended (ap (taken room start) parts ∙ whole-header c d tail ∙ refused-stays room done code tail) ∙ then_first done.code (refuse 11 (whole done)) code ∙ sym n

  pub head-refused : (file : List ℕ) → (head_number room file ≡ 0 → ⊥) → ended (taken room start file) ≡ head_number room file
  head-refused file bad = refused-by file (headed file) bad

-- a header that nothing is wrong with: columns c + 1 and rows d + 1, both even, and a grid that holds them
pub record Opened (room : ℕ) (file : List ℕ) : Type 0 where
  pub c : ℕ
  pub d : ℕ
  pub tail : List ℕ
  pub parts : file ≡ mark ++ c ∷ d ∷ tail
  pub even_columns : (c + 1) % 2 ≡ 0
  pub even_rows : (d + 1) % 2 ≡ 0
  pub fits : (c + 1) * (d + 1) ≤ room
  pub on : taken room start file ≡ taken room (between (head_of (c + 1) (d + 1)) 0) tail
  pub hands : emitted room start file ≡ emitted room (between (head_of (c + 1) (d + 1)) 0) tail

module _ (room : ℕ) where
  -- what 12 and 13 leave
  fine : (c d : ℕ) → (header_end room (head_of (c + 1) (d + 1))).code ≡ 0 → ((c + 1) % 2 ≡ 0) × ((d + 1) % 2 ≡ 0) × ((c + 1) * (d + 1) ≤ room)
  unfolding header_end
  fine c d e =
      let tests = first-passed 11 (eqb ((c + 1) % 2) 0 && eqb ((d + 1) % 2) 0) (refuse 13 (leb ((c + 1) * (d + 1)) room)) e in
      let even = both (eqb ((c + 1) % 2) 0) (eqb ((d + 1) % 2) 0) tests.0 in
      (eqb-true _ 0 even.0, eqb-true _ 0 even.1, leb-true _ room (passes 12 (leb ((c + 1) * (d + 1)) room) tests.1))

  at_cells : (c d : ℕ) → (header_end room (head_of (c + 1) (d + 1))).code ≡ 0 → header_end room (head_of (c + 1) (d + 1)) ≡ between (head_of (c + 1) (d + 1)) 0
  unfolding header_end
  at_cells c d e = ap {B = State} (λ (n : ℕ). record { code = n; head = head_of (c + 1) (d + 1); cells = 0; part = [] }) e

  opened_by : (file : List ℕ) → Headed room file → head_number room file ≡ 0 → Opened room file
  unfolding marked
  opened_by file (wrong s n) e = absurd (omega arith)
  opened_by file (short bytes s n) e = absurd (omega arith)
  opened_by file (full c d tail parts n) e =
      let code = sym n ∙ e in
      let ok = fine c d code in
      record {
        c = c;
        d = d;
        tail = tail;
        parts = parts;
        even_columns = ok.0;
        even_rows = ok.1;
        fits = ok.2;
        on = ap (taken room start) parts ∙ whole-header room c d tail ∙ ap (λ (s : State). taken room s tail) (at_cells c d code);
        hands = ap (emitted room start) parts ∙ header-emitted room 0x4C refl 0x47 refl c d tail ∙ ap (λ (s : State). emitted room s tail) (at_cells c d code);
      }

  pub opened : (file : List ℕ) → head_number room file ≡ 0 → Opened room file
  opened file e = opened_by file (headed room file) e

  -- a file that is read with 0 has such a header
  pub accepted-header : (file : List ℕ) → ended (taken room start file) ≡ 0 → Opened room file
  accepted-header file e =
      ⊎_elim (λ z. opened file z) (λ p. absurd (omega (arith, e, head-refused room file (λ z. absurd (omega arith))))) (eq-zero-or-pos (head_number room file))

-- so the grid takes in the cells behind the header alone
pub opened_keeps : {space : ℕ} {file : List ℕ} (it : Opened space file) (g : Grid) → kept space start file g ≡ kept space (between (head_of (it.c + 1) (it.d + 1)) 0) it.tail g
unfolding kept
opened_keeps it g = placed_same it.hands g
