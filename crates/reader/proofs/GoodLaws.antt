-- Laws of the count of a file's good records: a record that is not good takes in no cell, nor does any behind it. Assumes nothing.
use mathlib.Core.Path.{◌≡◌, refl, sym, ap, subst, ◌∙◌}
use mathlib.Core.Bool.{Bool, true, false, ◌&&◌}
use mathlib.Core.Logic.{⊎_elim}
use mathlib.Core.List.{List, [], ◌∷◌, ◌++◌}
use Prim.Native.Nat.{ℕ, zero, suc, ◌+◌, ◌*◌, ◌≤◌, ◌<◌}
use native.Mathlib.Nat.{eq-zero-or-pos, zero-mul}
use native.Mathlib.Omega.{arith}
use borrow.Author.Tests.{leb-true, leb-false, le-ltb, eqb-true, eqb-false, ne_eqb}
use lib.Dec.{leb, eqb}
use lib.ListN.{length, get_or, take, drop, length-append, length-take, length-drop, take-append-drop, drop_of_length-le}
use Rattle.ground.proofs.TestLaws.{tested, both}
use Rattle.grid.specs.Grid.{Grid, room}
use Rattle.records.specs.Forms.{Forms, plain_forms, mark, header_bytes, cell_bytes}
use Rattle.records.specs.Records.{file_bytes}
use Rattle.records.specs.Numbers.{OfBytes}
use Rattle.records.proofs.NumberLaws.{bytes-front}
use Rattle.records.proofs.FormLaws.{all_forms}
use Rattle.gridfile.specs.Reading.{head_cells, State, head_of, between, start, refused_at, begun, marked, next, taken, kept}
use Rattle.gridfile.proofs.TakenLaws.{taken-append, refused-stays, at, at-wrong, at_more}
use Rattle.gridfile.proofs.MarkLaws.{eight, behind, two-eight}
use Rattle.gridfile.proofs.PlaceLaws.{cell_marked, next_place, skips}
use Rattle.held.proofs.HeldLaws.{header-next, Sound, sound_start, sound_taken}
use Rattle.reader.specs.Fragments.{forms_in, good_record, good_from, good_count}
use Rattle.reader.proofs.CellLaws.{Read, read_there, read_file}

-- after a refusal no cell is taken in
refused-cells : (space : ℕ) (s : State) (n : ℕ) (bytes : List ℕ) → (taken space (refused_at s (suc n)) bytes).cells ≡ s.cells
unfolding refused_at
refused-cells space s n bytes = ap (λ (t : State). t.cells) (refused-stays space (refused_at s (suc n)) (λ e. absurd (omega arith)) bytes)

-- the record of cell k, of which some bytes have come
module _ (space columns rows k : ℕ) (wide : 0 < columns) (more : k < columns * rows) where
  abbrev with : List ℕ → State
  with bytes = at space columns rows k wide more bytes

  -- a wrong byte of the mark comes next
  wrong_cells : (bytes tail : List ℕ) (b : ℕ) → marked mark (length bytes) b ≡ false → (taken space (with bytes) (b ∷ tail)).cells ≡ k
  unfolding taken begun
  wrong_cells bytes tail b wrong =
      ap (λ (s : State). (taken space s tail).cells) (at-wrong space columns rows k wide more bytes b wrong) ∙ refused-cells space (with bytes) 9 tail

  -- the bytes run out
  cut_cells : (tail bytes : List ℕ) → length bytes + length tail < cell_bytes → (taken space (with bytes) tail).cells ≡ k
  unfolding taken begun
  cut_cells [] bytes few = refl
  cut_cells (b ∷ tail) bytes few =
      ⊎_elim
      (λ ok. ap (λ (s : State). (taken space s tail).cells) (at_more space columns rows k wide more bytes b ok (omega arith)) ∙ cut_cells tail (bytes ++ b ∷ []) (omega (arith, length-append bytes (b ∷ []))))
      (λ wrong. wrong_cells bytes tail b wrong) (tested (marked mark (length bytes) b))

  -- it is all there, and its mark is wrong
  mark-cells : (a b : ℕ) (tail : List ℕ) → marked mark 0 a && marked mark 1 b ≡ false → (taken space (between (head_of columns rows) k) (a ∷ b ∷ tail)).cells ≡ k
  unfolding taken begun
  mark-cells a b tail off =
      ⊎_elim
      (λ ok. ap (λ (s : State). (taken space s (b ∷ tail)).cells) (at_more space columns rows k wide more [] a ok (omega arith)) ∙ wrong_cells (a ∷ []) tail b (sym (ap (λ (t : Bool). t && marked mark 1 b) ok) ∙ off))
      (λ wrong. wrong_cells [] (b ∷ tail) a wrong) (tested (marked mark 0 a))

  -- so one that is not good takes in no cell
  module _ (file : List ℕ) (off : good_record plain_forms file k ≡ false) where
    abbrev p : ℕ
    p = file_bytes plain_forms k

    bad_cells : (taken space (between (head_of columns rows) k) (drop p file)).cells ≡ k
    unfolding good_record begun
    bad_cells =
        ⊎_elim
        (λ all.
        let there : p + cell_bytes ≤ length file = omega (arith, next_place k, leb-true (file_bytes plain_forms (suc k)) (length file) all) in
        ap (λ (bytes : List ℕ). (taken space (between (head_of columns rows) k) bytes).cells) (two-eight file p there)
        ∙ mark-cells (get_or file p 0) (get_or file (p + 1) 0) (eight file p there ++ behind file p there) (sym (ap (λ (t : Bool). t && cell_marked file k) all) ∙ off))
        (λ cut. cut_cells (drop p file) [] (omega (arith, next_place k, length-drop p file, leb-false (file_bytes plain_forms (suc k)) (length file) cut)))
        (tested (leb (file_bytes plain_forms (suc k)) (length file)))

-- the cells to come, of a header that was accepted
module _ (file : List ℕ) (space columns rows : ℕ) (wide : 0 < columns) where
  -- none: a byte more is one too many
  last-cells : (bytes : List ℕ) → (taken space (between (head_of columns rows) (columns * rows)) bytes).cells ≡ columns * rows
  unfolding taken next
  last-cells [] = refl
  last-cells (b ∷ bytes) =
      ap (λ (s : State). (taken space s bytes).cells) (rw (ne_eqb columns 0 (λ e. absurd (omega arith))) (rw (le-ltb (columns * rows) (columns * rows) (omega arith))))
      ∙ refused-cells space (between (head_of columns rows) (columns * rows)) 10 bytes

  -- a good record takes in its cell
  good_cells : (k : ℕ) → k < columns * rows → good_record plain_forms file k ≡ true → taken space (between (head_of columns rows) k) (drop (file_bytes plain_forms k) file) ≡ taken space (between (head_of columns rows) (suc k)) (drop (file_bytes plain_forms (suc k)) file)
  unfolding good_record
  good_cells k more ok =
      let halves = both (leb (file_bytes plain_forms (suc k)) (length file)) (cell_marked file k) ok in
      skips file k (leb-true (file_bytes plain_forms (suc k)) (length file) halves.0) space columns rows wide more halves.1

  cells-from : (n k : ℕ) → k + n ≡ columns * rows → (taken space (between (head_of columns rows) k) (drop (file_bytes plain_forms k) file)).cells ≡ k + good_from plain_forms file k n
  unfolding good_from
  cells-from zero k h =
      ap (λ (m : ℕ). (taken space (between (head_of columns rows) m) (drop (file_bytes plain_forms k) file)).cells) (omega arith) ∙ last-cells (drop (file_bytes plain_forms k) file) ∙ omega arith
  cells-from (suc n) k h =
      ⊎_elim
      (λ ok. rw ok (ap (λ (s : State). s.cells) (good_cells k (omega arith) ok) ∙ cells-from n (suc k) (omega arith) ∙ omega arith))
      (λ off. rw off (bad_cells space columns rows k wide (omega arith) file off ∙ omega arith))
      (tested (good_record plain_forms file k))

-- a file's header: where reading stands after its bytes
module _ (file : List ℕ) (g : Grid) (of_bytes : OfBytes file) where
  abbrev front : List ℕ
  front = take header_bytes file

  abbrev later : List ℕ
  later = drop header_bytes file

  abbrev header : State
  header = taken (room g) start front

  front-short : length front ≤ header_bytes
  front-short = omega (arith, length-take header_bytes file)

  front_bytes : OfBytes front
  front_bytes = bytes-front front later (subst OfBytes (sym (take-append-drop header_bytes file)) of_bytes)

  header_read : Read front header (kept (room g) start front g)
  header_read = read_file front g front_bytes

  header-sound : Sound header
  header-sound = sound_taken (room g) start front (λ k. omega arith) front_bytes sound_start

  header-cells : header.cells ≡ 0
  unfolding file_bytes
  header-cells = ⊎_elim (λ none. none) (λ some. absurd (omega (arith, read_there header_read some, front-short))) (eq-zero-or-pos header.cells)

  -- it is cut, and says no cells: nothing comes behind it
  cut : header.code ≡ 0 → header.head.columns ≡ 0 → (taken (room g) header later).cells ≡ good_from plain_forms file 0 (header.head.columns * header.head.rows)
  unfolding good_from taken
  cut e none =
      let few : length file ≤ header_bytes = omega (arith, ap length (header_read.header e none), header-sound.begun e, header-next header.head.columns header.head.forms none, length-take header_bytes file) in
      ap (λ (bytes : List ℕ). (taken (room g) header bytes).cells) (drop_of_length-le file {i = header_bytes} few) ∙ header-cells
      ∙ ap (good_from plain_forms file 0) (sym (ap (λ (n : ℕ). n * header.head.rows) none ∙ zero-mul header.head.rows))

  -- it is accepted, and the first cell's record comes next
  opened : header.code ≡ 0 → 0 < header.head.columns → header ≡ between (head_of header.head.columns header.head.rows) 0
  unfolding file_bytes
  opened e wide =
      let empty = header_read.later e wide ∙ drop_of_length-le front {i = file_bytes plain_forms header.cells} (omega (arith, front-short)) in
      λ i. record { code = e i; head = record { columns = header.head.columns; rows = header.head.rows; forms = sym (all_forms header.head.forms) i }; cells = header-cells i; part = empty i }

  accepted : header.code ≡ 0 → 0 < header.head.columns → (taken (room g) header later).cells ≡ good_from plain_forms file 0 (header.head.columns * header.head.rows)
  unfolding file_bytes
  accepted e wide =
      ap (λ (s : State). (taken (room g) s later).cells) (opened e wide)
      ∙ cells-from file (room g) header.head.columns header.head.rows wide (header.head.columns * header.head.rows) 0 (omega arith) ∙ omega arith

  -- so the cells taken in are as many as the good records
  header-count : (taken (room g) header later).cells ≡ good_count file g
  unfolding good_count
  header-count =
      ⊎_elim
      (λ e.
      let code = eqb-true header.code 0 e in
      rw e (⊎_elim (cut code) (accepted code) (eq-zero-or-pos header.head.columns) ∙ ap (λ (forms : Forms). good_from forms file 0 (head_cells header.head)) (all_forms (forms_in file g))))
      (λ e. rw e (ap (λ (s : State). s.cells) (refused-stays (room g) header (eqb-false header.code 0 e) later) ∙ header-cells))
      (tested (eqb header.code 0))

  pub good_count_lem : (taken (room g) start file).cells ≡ good_count file g
  good_count_lem =
      ap (λ (bytes : List ℕ). (taken (room g) start bytes).cells) (sym (take-append-drop header_bytes file)) ∙ ap (λ (s : State). s.cells) (taken-append (room g) start front later)
      ∙ header-count
