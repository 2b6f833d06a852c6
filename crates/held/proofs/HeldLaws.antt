-- Laws of the state between two calls: what a state satisfies that a call gives back, that its record gives it back, and that
-- each byte keeps this. Assumes nothing.
use mathlib.Core.Path.{◌≡◌, refl, sym, ap, ◌∙◌}
use mathlib.Core.Bool.{Bool, true, false, ◌&&◌, cond}
use mathlib.Core.Logic.{⊎_elim}
use mathlib.Core.List.{List, [], ◌∷◌, ◌++◌}
use Prim.Native.Nat.{ℕ, zero, suc, ◌+◌, ◌-◌, ◌*◌, ◌≤◌, ◌<◌, min}
use native.Mathlib.Nat.{eq-zero-or-pos}
use native.Mathlib.Omega.{arith}
use borrow.Author.Tests.{leb-true, le-leb, eqb-true, eqb-false, eq-eqb, ne_eqb, ltb-true, ltb-false}
use lib.Dec.{leb, ltb, eqb}
use lib.ListN.{length, get_or, take, drop, length-take, length-append, take-append-drop}
use lib.Seq.{take_at}
use Rattle.ground.proofs.TestLaws.{tested, both}
use Rattle.records.specs.Forms.{Forms, plain_forms, mark, header_bytes, cell_bytes, most_cells}
use Rattle.records.specs.Numbers.{OfBytes}
use Rattle.records.proofs.NumberLaws.{bytes-front}
use Rattle.records.proofs.FormLaws.{all_forms, header-size, cell-size}
use Rattle.gridfile.specs.Reading.{Head, State, head_of, start, refused_at, begun, marked, header_end, header_done, cell_done, record_byte, header_byte, cell_byte, next, taken}
use Rattle.held.specs.declared.state.Reader.{Reader}
use Rattle.held.specs.Held.{reader_of, record_bytes, shaped, state_of}

-- the record that comes next: the header's four bytes, or a cell's ten
module _ (columns : ℕ) (forms : Forms) where
  pub header-next : columns ≡ 0 → record_bytes columns forms ≡ header_bytes
  unfolding record_bytes
  header-next e = rw (eq-eqb columns 0 e) (header-size forms.header)

  pub cell-next : 0 < columns → record_bytes columns forms ≡ cell_bytes
  unfolding record_bytes
  cell-next some = rw (ne_eqb columns 0 (λ e. absurd (omega arith))) (cell-size forms.cell)

  pub some_bytes : (header_bytes ≤ record_bytes columns forms) × (record_bytes columns forms ≤ cell_bytes)
  some_bytes =
      ⊎_elim {C = (header_bytes ≤ record_bytes columns forms) × (record_bytes columns forms ≤ cell_bytes)} (λ e. (omega (arith, header-next e), omega (arith, header-next e))) (λ p. (omega (arith, cell-next p), omega (arith, cell-next p)))
      (eq-zero-or-pos columns)

-- a refusal leaves no record begun; without one columns and rows are as a header can say them, and a record begun is not whole
pub record Sound (s : State) : Type 0 where
  pub none : (s.code ≡ 0 → ⊥) → s.part ≡ []
  pub columns : s.code ≡ 0 → s.head.columns ≤ most_cells
  pub rows : s.code ≡ 0 → s.head.rows ≤ most_cells
  pub begun : s.code ≡ 0 → suc (length s.part) ≤ record_bytes s.head.columns s.head.forms

pub sound_refused : {s : State} → (s.code ≡ 0 → ⊥) → s.part ≡ [] → Sound s
sound_refused some empty = record { none = λ some. empty; columns = λ z. absurd (some z); rows = λ z. absurd (some z); begun = λ z. absurd (some z) }

pub sound_start : Sound start
sound_start = record { none = λ some. refl; columns = λ z. omega arith; rows = λ z. omega arith; begun = λ z. omega (arith, some_bytes 0 plain_forms) }

-- the record of a state gives it back
module _ (s : State) where
  pub with_part : {bytes : List ℕ} → bytes ≡ s.part → record { code = s.code; head = s.head; cells = s.cells; part = bytes } ≡ s
  with_part e = ap {B = State} (λ (bytes : List ℕ). record { code = s.code; head = s.head; cells = s.cells; part = bytes }) e

  same_head : head_of s.head.columns s.head.rows ≡ s.head
  same_head = ap {B = Head} (λ (forms : Forms). record { columns = s.head.columns; rows = s.head.rows; forms = forms }) (all_forms s.head.forms)

  of_reader : {bytes : List ℕ} → bytes ≡ s.part → record { code = s.code; head = head_of s.head.columns s.head.rows; cells = s.cells; part = bytes } ≡ s
  of_reader e = λ i. record { code = s.code; head = same_head i; cells = s.cells; part = e i }

  pub refused-back : (s.code ≡ 0 → ⊥) → s.part ≡ [] → state_of (reader_of s) ≡ s
  unfolding state_of reader_of
  refused-back some empty = rw (ne_eqb s.code 0 some) (of_reader (sym empty))

  open_back : s.code ≡ 0 → Sound s → state_of (reader_of s) ≡ s
  unfolding state_of reader_of shaped begun
  open_back e ok =
      let all : min (length s.part) (record_bytes s.head.columns plain_forms - 1) ≡ length s.part = omega (arith, ok.begun e, ap (record_bytes s.head.columns) (all_forms s.head.forms)) in
      rw (eq-eqb s.code 0 e, le-leb s.head.columns most_cells (ok.columns e), le-leb s.head.rows most_cells (ok.rows e))
      (of_reader (rw all (take_at s.part _ (length s.part) refl)))

pub back : {s : State} → Sound s → state_of (reader_of s) ≡ s
back {s} ok =
    ⊎_elim (λ e. open_back s (eqb-true s.code 0 e) ok) (λ e. let some = eqb-false s.code 0 e in refused-back s some (ok.none some)) (tested (eqb s.code 0))

pub settled_back : {s : State} → Sound s → reader_of (state_of (reader_of s)) ≡ reader_of s
settled_back ok = ap reader_of (back ok)

-- either side of a test
module _ (P : State → Type 0) where
  pub by_test : (t : Bool) (a b : State) → (t ≡ true → P a) → (t ≡ false → P b) → P (cond t a b)
  by_test true a b p q = p refl
  by_test false a b p q = q refl

  -- a byte: a refusal stays, or comes; a record has one byte more, or its last
  module _ (space : ℕ) (s : State) (byte : ℕ) (refused : s.code ≡ 0 → (n : ℕ) → P (refused_at s (suc n))) (begins : s.code ≡ 0 → suc (suc (length s.part)) ≤ record_bytes s.head.columns s.head.forms → P (begun s (s.part ++ byte ∷ []))) where
    record_by : (size : ℕ) (done : State) → s.code ≡ 0 → record_bytes s.head.columns s.head.forms ≡ size → (mark : List ℕ) → (size ≤ suc (length s.part) → P done) → P (record_byte mark size done s byte)
    unfolding record_byte
    record_by size done e is mark ends =
        by_test (marked mark (length s.part) byte) _ _
        (λ ok. by_test (ltb (suc (length s.part)) size) _ _ (λ t. begins e (omega (arith, ltb-true (suc (length s.part)) size t))) (λ t. ends (ltb-false (suc (length s.part)) size t)))
        (λ ok. refused e 9)

    pub next-by : ((s.code ≡ 0 → ⊥) → P s) → (s.code ≡ 0 → s.head.columns ≡ 0 → header_bytes ≤ suc (length s.part) → P (header_done space (s.part ++ byte ∷ []))) → (s.code ≡ 0 → 0 < s.head.columns → s.cells < s.head.columns * s.head.rows → cell_bytes ≤ suc (length s.part) → P (cell_done s s.head.forms.cell)) → P (next space s byte)
    unfolding next header_byte cell_byte
    next-by stays header cell =
        by_test (eqb s.code 0) _ _
        (λ t.
        let e = eqb-true s.code 0 t in
        by_test (eqb s.head.columns 0) _ _ (λ z. let first = eqb-true s.head.columns 0 z in record_by _ _ e (header-next s.head.columns s.head.forms first) _ (header e first))
        (λ z.
        let wide : 0 < s.head.columns = omega (arith, eqb-false s.head.columns 0 z) in
        let size = cell-size s.head.forms.cell in
        by_test (ltb s.cells (s.head.columns * s.head.rows)) _ _ (λ m. record_by _ _ e (cell-next s.head.columns s.head.forms wide ∙ sym size) _ (λ full. cell e wide (ltb-true s.cells (s.head.columns * s.head.rows) m) (omega (arith, full, size)))) (λ m. refused e 10)))
        (λ t. stays (eqb-false s.code 0 t))

-- a record of any bits stands for such a state
pub sound_of : (r : Reader) → Sound (state_of r)
unfolding state_of shaped begun refused_at
sound_of r =
    by_test Sound (eqb r.code 0) _ _
    (λ e.
    by_test Sound (leb r.columns most_cells && leb r.rows most_cells) _ _
    (λ t.
    let tests = both (leb r.columns most_cells) (leb r.rows most_cells) t in
    record {
      none = λ some. absurd (some (eqb-true r.code 0 e));
      columns = λ z. leb-true r.columns most_cells tests.0;
      rows = λ z. leb-true r.rows most_cells tests.1;
      begun = λ z. omega (arith, length-take (min r.held (record_bytes r.columns plain_forms - 1)) r.part, some_bytes r.columns plain_forms);
    })
    (λ t. sound_refused (λ z. absurd (omega arith)) refl))
    (λ e. sound_refused (eqb-false r.code 0 e) refl)

pub bytes_of : (r : Reader) → OfBytes r.part → OfBytes (state_of r).part
unfolding state_of begun refused_at
bytes_of r of_bytes =
    let n = min r.held (record_bytes r.columns plain_forms - 1) in
    by_test (λ t. OfBytes t.part) (eqb r.code 0) _ _
    (λ e. by_test (λ t. OfBytes t.part) (shaped (head_of r.columns r.rows)) _ _ (λ t. bytes-front (take n r.part) (drop n r.part) (rw take-append-drop of_bytes)) (λ t k. omega arith))
    (λ e k. omega arith)

-- and so does each state after it, as long as bytes come
pub bytes-snoc : (xs : List ℕ) (byte : ℕ) → OfBytes xs → byte < 256 → OfBytes (xs ++ byte ∷ [])
bytes-snoc [] byte of_bytes small zero = small
bytes-snoc [] byte of_bytes small (suc k) = omega arith
bytes-snoc (x ∷ xs) byte of_bytes small zero = of_bytes 0
bytes-snoc (x ∷ xs) byte of_bytes small (suc k) = bytes-snoc xs byte (λ j. of_bytes (suc j)) small k

module _ (space : ℕ) (s : State) (byte : ℕ) (of_bytes : OfBytes s.part) (small : byte < 256) where
  pub bytes_next : OfBytes (next space s byte).part
  unfolding refused_at begun header_done header_end cell_done
  bytes_next =
      next-by (λ t. OfBytes t.part) space s byte (λ e n k. omega arith) (λ e left. bytes-snoc s.part byte of_bytes small) (λ some. of_bytes) (λ e first full k. omega arith) (λ e wide more full k. omega arith)

  pub sound_next : Sound s → Sound (next space s byte)
  unfolding refused_at begun header_done header_end cell_done
  sound_next ok =
      let bytes = bytes-snoc s.part byte of_bytes small in
      next-by Sound space s byte (λ e n. sound_refused (λ z. absurd (omega arith)) refl)
      (λ e left. record { none = λ some. absurd (some e); columns = ok.columns; rows = ok.rows; begun = λ z. omega (arith, length-append s.part (byte ∷ [])) })
      (λ some. ok)
      (λ e first full. record { none = λ some. refl; columns = λ z. omega (arith, bytes 2); rows = λ z. omega (arith, bytes 3); begun = λ z. omega (arith, some_bytes (get_or (s.part ++ byte ∷ []) 2 0 + 1) plain_forms) })
      (λ e wide more full. record { none = λ some. refl; columns = ok.columns; rows = ok.rows; begun = λ z. omega (arith, some_bytes s.head.columns s.head.forms) })

pub bytes-taken : (space : ℕ) (s : State) (bytes : List ℕ) → OfBytes s.part → OfBytes bytes → OfBytes (taken space s bytes).part
unfolding taken
bytes-taken space s [] part of_bytes = part
bytes-taken space s (b ∷ bytes) part of_bytes =
    bytes-taken space (next space s b) bytes (bytes_next space s b part (of_bytes 0)) (λ k. of_bytes (suc k))

pub sound_taken : (space : ℕ) (s : State) (bytes : List ℕ) → OfBytes s.part → OfBytes bytes → Sound s → Sound (taken space s bytes)
unfolding taken
sound_taken space s [] part of_bytes ok = ok
sound_taken space s (b ∷ bytes) part of_bytes ok =
    sound_taken space (next space s b) bytes (bytes_next space s b part (of_bytes 0)) (λ k. of_bytes (suc k)) (sound_next space s b part (of_bytes 0) ok)
