-- Laws of reading byte by byte: a fold goes on where another ended, a refusal stays, and how a record goes by. Assumes nothing.
use mathlib.Core.Path.{◌≡◌, refl, sym, ap, ap₂, ◌∙◌}
use mathlib.Core.Bool.{true, false}
use mathlib.Core.List.{List, [], ◌∷◌, ◌++◌, append_assoc, append-nil}
use Prim.Native.Nat.{ℕ, suc, ◌+◌, ◌*◌, ◌≤◌, ◌<◌}
use native.Mathlib.Omega.{arith}
use borrow.Author.Tests.{lt-ltb, le-ltb, le-leb, eqb-true, eq-eqb, ne_eqb}
use lib.ListN.{length, get_or, take, length-append}
use lib.Seq.{take-suc, take_all, length-take-le}
use Rattle.grid.specs.Grid.{Grid, with_cell}
use Rattle.records.specs.Forms.{one_sad, mark, cell_bytes}
use Rattle.records.specs.Records.{cell_of}
use Rattle.gridfile.specs.Reading.{State, head_of, between, refused_at, begun, marked, cell_done, record_byte, cell_byte, next, taken, Placed, handed, emitted, with_placed, kept}
use Rattle.gridfile.proofs.EmittedLaws.{hands_none, hands_one, emitted-append, placed_same}

-- one fragment after another
pub taken-append : (room : ℕ) (s : State) (xs ys : List ℕ) → taken room s (xs ++ ys) ≡ taken room (taken room s xs) ys
unfolding taken
taken-append room s [] ys = refl
taken-append room s (x ∷ xs) ys = taken-append room (next room s x) xs ys

-- a refusal stays, and hands out nothing more
module _ (room : ℕ) (s : State) (refused : s.code ≡ 0 → ⊥) where
  refused-next : (byte : ℕ) → next room s byte ≡ s
  unfolding next
  refused-next byte = rw (ne_eqb s.code 0 refused)

  refused-hands : (byte : ℕ) → handed room s byte ≡ []
  refused-hands byte = hands_none room s byte (omega (arith, ap (λ (t : State). t.cells) (refused-next byte)))

  pub refused-stays : (bytes : List ℕ) → taken room s bytes ≡ s
  unfolding taken
  refused-stays [] = refl
  refused-stays (b ∷ bytes) = ap (λ (t : State). taken room t bytes) (refused-next b) ∙ refused-stays bytes

  refused-emits : (bytes : List ℕ) → emitted room s bytes ≡ []
  unfolding emitted
  refused-emits [] = refl
  refused-emits (b ∷ bytes) =
      ap₂ (λ (ps : List Placed) (t : State). ps ++ emitted room t bytes) (refused-hands b) (refused-next b) ∙ refused-emits bytes

  pub refused-keeps : (bytes : List ℕ) (g : Grid) → kept room s bytes g ≡ g
  unfolding kept with_placed
  refused-keeps bytes g = placed_same (refused-emits bytes) g

-- a byte of a record of so many bytes: a wrong one of the mark, one that is not the last, and the last
module _ (mark : List ℕ) (size : ℕ) (done s : State) (b : ℕ) where
  pub byte_wrong : marked mark (length s.part) b ≡ false → record_byte mark size done s b ≡ refused_at s 10
  unfolding record_byte
  byte_wrong wrong = rw wrong

  pub byte_more : marked mark (length s.part) b ≡ true → suc (length s.part) < size → record_byte mark size done s b ≡ begun s (s.part ++ b ∷ [])
  unfolding record_byte
  byte_more ok left = rw ok (rw (lt-ltb (suc (length s.part)) size left))

  pub byte_last : marked mark (length s.part) b ≡ true → suc (length s.part) ≡ size → record_byte mark size done s b ≡ done
  unfolding record_byte
  byte_last ok full = rw ok (rw (le-ltb (suc (length s.part)) size (omega arith)))

-- the bytes of the mark
module _ (b : ℕ) where
  pub first_byte : marked mark 0 b ≡ true → b ≡ 0x4C
  unfolding marked
  first_byte ok = eqb-true b 0x4C ok

  pub second-byte : marked mark 1 b ≡ true → b ≡ 0x47
  unfolding marked
  second-byte ok = eqb-true b 0x47 ok

  pub first-right : b ≡ 0x4C → marked mark 0 b ≡ true
  unfolding marked
  first-right e = eq-eqb b 0x4C e

  pub second-right : b ≡ 0x47 → marked mark 1 b ≡ true
  unfolding marked
  second-right e = eq-eqb b 0x47 e

  pub first_off : (b ≡ 0x4C → ⊥) → marked mark 0 b ≡ false
  unfolding marked
  first_off e = ne_eqb b 0x4C e

  pub second-off : (b ≡ 0x47 → ⊥) → marked mark 1 b ≡ false
  unfolding marked
  second-off e = ne_eqb b 0x47 e

-- bytes past it may be anything
pub past-mark : (place b : ℕ) → 2 ≤ place → marked mark place b ≡ true
unfolding marked
past-mark place b h = rw (le-leb 2 place h)

-- the record of cell k, which is one of the file's
module _ (room columns rows k : ℕ) (wide : 0 < columns) (more : k < columns * rows) where
  -- some bytes of it have come
  abbrev pub at : List ℕ → State
  at bytes = begun (between (head_of columns rows) k) bytes

  at_byte : (bytes : List ℕ) (b : ℕ) → next room (at bytes) b ≡ record_byte mark cell_bytes (cell_done (at bytes) one_sad) (at bytes) b
  unfolding next cell_byte begun
  at_byte bytes b = rw (ne_eqb columns 0 (λ e. absurd (omega arith))) (rw (lt-ltb k (columns * rows) more))

  pub at-wrong : (bytes : List ℕ) (b : ℕ) → marked mark (length bytes) b ≡ false → next room (at bytes) b ≡ refused_at (at bytes) 10
  unfolding begun
  at-wrong bytes b wrong = at_byte bytes b ∙ byte_wrong mark cell_bytes (cell_done (at bytes) one_sad) (at bytes) b wrong

  pub at_more : (bytes : List ℕ) (b : ℕ) → marked mark (length bytes) b ≡ true → suc (length bytes) < cell_bytes → next room (at bytes) b ≡ at (bytes ++ b ∷ [])
  unfolding begun
  at_more bytes b ok left = at_byte bytes b ∙ byte_more mark cell_bytes (cell_done (at bytes) one_sad) (at bytes) b ok left

  at_last : (bytes : List ℕ) (b : ℕ) → marked mark (length bytes) b ≡ true → suc (length bytes) ≡ cell_bytes → next room (at bytes) b ≡ between (head_of columns rows) (suc k)
  unfolding begun cell_done
  at_last bytes b ok full = at_byte bytes b ∙ byte_last mark cell_bytes (cell_done (at bytes) one_sad) (at bytes) b ok full

  -- only the last hands out the cell
  hands_more : (bytes : List ℕ) (b : ℕ) → marked mark (length bytes) b ≡ true → suc (length bytes) < cell_bytes → handed room (at bytes) b ≡ []
  unfolding begun
  hands_more bytes b ok left = hands_none room (at bytes) b (omega (arith, ap (λ (s : State). s.cells) (at_more bytes b ok left)))

  hands_last : (bytes : List ℕ) (b : ℕ) → marked mark (length bytes) b ≡ true → suc (length bytes) ≡ cell_bytes → handed room (at bytes) b ≡ record { place = k; cell = cell_of one_sad (bytes ++ b ∷ []) } ∷ []
  unfolding begun
  hands_last bytes b ok full = hands_one room (at bytes) b (omega (arith, ap (λ (s : State). s.cells) (at_last bytes b ok full)))

  pub part-taken : (front bytes : List ℕ) → 2 ≤ length front → length front + length bytes < cell_bytes → taken room (at front) bytes ≡ at (front ++ bytes)
  unfolding taken
  part-taken front [] h fits = ap at (sym (append-nil front))
  part-taken front (b ∷ bytes) h fits =
      ap (λ (s : State). taken room s bytes) (at_more front b (past-mark (length front) b h) (omega arith))
      ∙ part-taken (front ++ b ∷ []) bytes (omega (arith, length-append front (b ∷ []))) (omega (arith, length-append front (b ∷ [])))
      ∙ ap at (append_assoc front (b ∷ []) bytes)

  part-emitted : (front bytes : List ℕ) → 2 ≤ length front → length front + length bytes < cell_bytes → emitted room (at front) bytes ≡ []
  unfolding emitted
  part-emitted front [] h fits = refl
  part-emitted front (b ∷ bytes) h fits =
      let ok = past-mark (length front) b h in
      ap₂ (λ (ps : List Placed) (s : State). ps ++ emitted room s bytes) (hands_more front b ok (omega arith)) (at_more front b ok (omega arith))
      ∙ part-emitted (front ++ b ∷ []) bytes (omega (arith, length-append front (b ∷ []))) (omega (arith, length-append front (b ∷ [])))

  -- the mark
  mark-taken : next room (next room (between (head_of columns rows) k) 0x4C) 0x47 ≡ at mark
  unfolding marked begun
  mark-taken = ap (λ (s : State). next room s 0x47) (at_more [] 0x4C refl (omega arith)) ∙ at_more (0x4C ∷ []) 0x47 refl (omega arith)

  mark-emitted : (bytes : List ℕ) → emitted room (between (head_of columns rows) k) (mark ++ bytes) ≡ emitted room (at mark) bytes
  unfolding emitted marked begun
  mark-emitted bytes =
      ap₂ (λ (ps : List Placed) (s : State). ps ++ emitted room s (0x47 ∷ bytes)) (hands_more [] 0x4C refl (omega arith)) (at_more [] 0x4C refl (omega arith))
      ∙ ap₂ (λ (ps : List Placed) (s : State). ps ++ emitted room s bytes) (hands_more (0x4C ∷ []) 0x47 refl (omega arith)) (at_more (0x4C ∷ []) 0x47 refl (omega arith))

  -- a whole record: the mark and eight bytes more
  module _ (eight : List ℕ) (full : length eight ≡ 8) where
    abbrev seven : List ℕ
    seven = take 7 eight

    abbrev last : ℕ
    last = get_or eight 7 0

    seven-last : eight ≡ seven ++ last ∷ []
    seven-last = sym (take_all 8 eight (omega arith)) ∙ take-suc eight 7 0 (omega arith)

    seven-long : length (mark ++ seven) ≡ 9
    seven-long = omega (arith, length-take-le 7 eight (omega arith))

    seven-taken : taken room (at mark) seven ≡ at (mark ++ seven)
    seven-taken = part-taken mark seven (omega arith) (omega (arith, seven-long))

    last_ok : marked mark (length (mark ++ seven)) last ≡ true
    last_ok = past-mark (length (mark ++ seven)) last (omega (arith, seven-long))

    pub record_taken : taken room (between (head_of columns rows) k) (mark ++ eight) ≡ between (head_of columns rows) (suc k)
    unfolding taken
    record_taken =
        ap₂ (λ (s : State) (bytes : List ℕ). taken room s bytes) mark-taken seven-last ∙ taken-append room (at mark) seven (last ∷ [])
        ∙ ap (λ (s : State). next room s last) seven-taken ∙ at_last (mark ++ seven) last last_ok (omega (arith, seven-long))

    pub record_emitted : emitted room (between (head_of columns rows) k) (mark ++ eight) ≡ record { place = k; cell = cell_of one_sad (mark ++ eight) } ∷ []
    unfolding emitted
    record_emitted =
        mark-emitted eight ∙ ap (emitted room (at mark)) seven-last ∙ emitted-append room (at mark) seven (last ∷ [])
        ∙ ap₂ (λ (ps : List Placed) (s : State). ps ++ emitted room s (last ∷ [])) (part-emitted mark seven (omega arith) (omega (arith, seven-long))) seven-taken
        ∙ ap (λ (ps : List Placed). ps ++ []) (hands_last (mark ++ seven) last last_ok (omega (arith, seven-long)))
        ∙ ap {B = List Placed} (λ (bytes : List ℕ). record { place = k; cell = cell_of one_sad (mark ++ bytes) } ∷ []) (sym seven-last)

    pub record_kept : (g : Grid) → kept room (between (head_of columns rows) k) (mark ++ eight) g ≡ with_cell k (cell_of one_sad (mark ++ eight)) g
    unfolding kept with_placed
    record_kept g = placed_same record_emitted g
