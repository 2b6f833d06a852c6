-- Laws of the cells that a file leaves: each holds its record, as soon as the last byte of that has come. Assumes nothing.
use mathlib.Core.Path.{◌≡◌, refl, sym, ap, ap₂, subst, ◌∙◌}
use mathlib.Core.Bool.{cond}
use mathlib.Core.Logic.{⊎_elim}
use mathlib.Core.List.{List, [], ◌∷◌, ◌++◌, append-nil, append_assoc}
use Prim.Native.Nat.{ℕ, suc, ◌+◌, ◌*◌, ◌≤◌, ◌<◌}
use native.Mathlib.Nat.{eq-zero-or-pos, eq-or-lt_of_le}
use native.Mathlib.Omega.{arith}
use borrow.Author.Tests.{lt-ltb, le-ltb}
use lib.Dec.{ltb}
use lib.ListN.{length, drop, length-append, length-drop, drop_of_length-le}
use lib.Seq.{slice, take_all, take-append-le, drop-append-le}
use Rattle.grid.specs.declared.cells.MEStats.{MEStats}
use Rattle.grid.specs.Grid.{Grid, stats_at, with_cell, room}
use Rattle.records.specs.Forms.{one_sad, plain_forms, header_bytes, cell_bytes}
use Rattle.records.specs.Records.{cell_of, file_bytes}
use Rattle.records.specs.Numbers.{OfBytes}
use Rattle.records.proofs.FormLaws.{cell-form}
use Rattle.gridfile.specs.Reading.{State, start, refused_at, begun, header_end, header_done, cell_done, next, taken, keep, kept}
use Rattle.gridfile.proofs.PlaceLaws.{next_place}
use Rattle.gridfile.proofs.EmittedLaws.{keep-if, kept-none, kept_more}
use Rattle.gridfile.proofs.KeptLaws.{same-room, cell-here, cell_other, keep-lengths}
use Rattle.held.proofs.HeldLaws.{header-next, cell-next, Sound, sound_start, next-by, bytes_next, sound_next}
use Rattle.reader.specs.Calls.{Fits}
use Rattle.reader.proofs.CallLaws.{fits-start, fits_next}

-- where reading stands after a file's front: the record begun is its end, and the cells taken in hold their records
pub record Read (front : List ℕ) (s : State) (g : Grid) : Type 0 where
  pub none : s.head.columns ≡ 0 → s.cells ≡ 0
  pub header : s.code ≡ 0 → s.head.columns ≡ 0 → s.part ≡ front
  pub later : s.code ≡ 0 → 0 < s.head.columns → s.part ≡ drop (file_bytes plain_forms s.cells) front
  pub there : 0 < s.head.columns → file_bytes plain_forms s.cells ≤ length front
  pub inside : (i : ℕ) → i < s.cells → stats_at g i ≡ cell_of one_sad (slice (file_bytes plain_forms i) (file_bytes plain_forms (suc i)) front)

read_start : (g : Grid) → Read [] start g
read_start g =
    record {
      none = λ e. refl;
      header = λ z e. refl;
      later = λ z wide. absurd (omega arith);
      there = λ wide. absurd (omega arith);
      inside = λ i below. absurd (omega arith);
    }

-- a front that grows keeps its records
slice_front : (xs ys : List ℕ) (f t : ℕ) → t ≤ length xs → slice f t (xs ++ ys) ≡ slice f t xs
slice_front xs ys f t h = ap (drop f) (take-append-le t xs ys h)

-- so the records of all cells are there
pub read_there : {front : List ℕ} {s : State} {g : Grid} → Read front s g → 0 < s.cells → file_bytes plain_forms s.cells ≤ length front
read_there {s = s} now some = ⊎_elim (λ z. absurd (omega (arith, now.none z))) now.there (eq-zero-or-pos s.head.columns)

-- one byte more
module _ (space : ℕ) (front : List ℕ) (s : State) (byte : ℕ) (g : Grid) (ok : Sound s) (fits : Fits space s) (long : room g ≡ space) (now : Read front s g) where
  abbrev more : List ℕ
  more = front ++ byte ∷ []

  more_long : length more ≡ length front + 1
  more_long = length-append front (byte ∷ [])

  -- a state after the byte, and the grid that goes with it
  abbrev After : State → Type 0
  After t = Read more t (cond (ltb s.cells t.cells) (with_cell s.cells (cell_of s.head.forms.cell (s.part ++ byte ∷ [])) g) g)

  older : (i : ℕ) → i < s.cells → stats_at g i ≡ cell_of one_sad (slice (file_bytes plain_forms i) (file_bytes plain_forms (suc i)) more)
  unfolding file_bytes
  older i below =
      let inside : file_bytes plain_forms (suc i) ≤ length front = omega (arith, read_there now (omega arith)) in
      now.inside i below ∙ ap (cell_of one_sad) (sym (slice_front front (byte ∷ []) (file_bytes plain_forms i) (file_bytes plain_forms (suc i)) inside))

  more_there : 0 < s.head.columns → file_bytes plain_forms s.cells ≤ length more
  more_there wide = omega (arith, more_long, now.there wide)

  -- the state stays refused, or is now
  stays : (s.code ≡ 0 → ⊥) → After s
  stays some =
      rw (le-ltb s.cells s.cells (omega arith))
      (record { none = now.none; header = λ z. absurd (some z); later = λ z. absurd (some z); there = more_there; inside = older })

  refused : (n : ℕ) → After (refused_at s (suc n))
  unfolding refused_at
  refused n =
      rw (le-ltb s.cells s.cells (omega arith))
      (record { none = now.none; header = λ z. absurd (omega arith); later = λ z. absurd (omega arith); there = more_there; inside = older })

  -- the record has one byte more
  begins : After (begun s (s.part ++ byte ∷ []))
  unfolding begun
  begins =
      rw (le-ltb s.cells s.cells (omega arith))
      (record {
        none = now.none;
        header = λ z first. ap (λ (l : List ℕ). l ++ byte ∷ []) (now.header z first);
        later = λ z wide. ap (λ (l : List ℕ). l ++ byte ∷ []) (now.later z wide) ∙ sym (drop-append-le (file_bytes plain_forms s.cells) front (byte ∷ []) (now.there wide));
        there = more_there;
        inside = older;
      })

  -- the header's last byte has come
  header-ends : s.code ≡ 0 → s.head.columns ≡ 0 → header_bytes ≤ suc (length s.part) → After (header_done space (s.part ++ byte ∷ []))
  unfolding header_done header_end file_bytes
  header-ends e first full =
      let four : length more ≡ header_bytes = omega (arith, more_long, ap length (now.header e first), ok.begun e, header-next s.head.columns s.head.forms first) in
      rw (le-ltb s.cells 0 (omega arith))
      (record {
        none = λ z. refl;
        header = λ z none. absurd (omega arith);
        later = λ z wide. sym (drop_of_length-le more {i = header_bytes} (omega arith));
        there = λ wide. omega arith;
        inside = λ i below. absurd (omega arith);
      })

  -- and a cell's
  module _ (e : s.code ≡ 0) (wide : 0 < s.head.columns) (left : s.cells < s.head.columns * s.head.rows) (full : cell_bytes ≤ suc (length s.part)) where
    abbrev cell : MEStats
    cell = cell_of s.head.forms.cell (s.part ++ byte ∷ [])

    ten : length more ≡ file_bytes plain_forms (suc s.cells)
    ten = omega (arith, more_long, ap length (now.later e wide), length-drop (file_bytes plain_forms s.cells) front, now.there wide, ok.begun e, cell-next s.head.columns s.head.forms wide, next_place s.cells)

    its_record : s.part ++ byte ∷ [] ≡ slice (file_bytes plain_forms s.cells) (file_bytes plain_forms (suc s.cells)) more
    its_record =
        ap (λ (l : List ℕ). l ++ byte ∷ []) (now.later e wide) ∙ sym (drop-append-le (file_bytes plain_forms s.cells) front (byte ∷ []) (now.there wide))
        ∙ ap (drop (file_bytes plain_forms s.cells)) (sym (take_all (file_bytes plain_forms (suc s.cells)) more (omega (arith, ten))))

    cells-now : (i : ℕ) → i < suc s.cells → stats_at (with_cell s.cells cell g) i ≡ cell_of one_sad (slice (file_bytes plain_forms i) (file_bytes plain_forms (suc i)) more)
    cells-now i below =
        let upto : i ≤ s.cells = omega arith in
        let here = cell-here s.cells cell g (omega (arith, long, left, fits e wide)) ∙ ap₂ cell_of (sym (cell-form s.head.forms.cell)) its_record in
        ⊎_elim (λ same. subst (λ (j : ℕ). stats_at (with_cell s.cells cell g) j ≡ cell_of one_sad (slice (file_bytes plain_forms j) (file_bytes plain_forms (suc j)) more)) (sym same) here)
        (λ less. cell_other s.cells cell g i (λ same. absurd (omega arith)) ∙ older i less)
        (eq-or-lt_of_le upto)

    cell-ends : After (cell_done s s.head.forms.cell)
    unfolding cell_done
    cell-ends =
        rw (lt-ltb s.cells (suc s.cells) (omega arith))
        (record {
          none = λ z. absurd (omega arith);
          header = λ z none. absurd (omega arith);
          later = λ z wide. sym (drop_of_length-le more {i = file_bytes plain_forms (suc s.cells)} (omega (arith, ten)));
          there = λ wide. omega (arith, ten);
          inside = cells-now;
        })

  read_next : Read more (next space s byte) (keep space s byte g)
  read_next =
      rw (keep-if space s byte g) (next-by After space s byte (λ e n. refused n) (λ e left. begins) stays header-ends cell-ends)

-- and all of them
read_taken : (space : ℕ) (bytes front : List ℕ) (s : State) (g : Grid) → Sound s → OfBytes s.part → OfBytes bytes → Fits space s → room g ≡ space → Read front s g → Read (front ++ bytes) (taken space s bytes) (kept space s bytes g)
unfolding taken
read_taken space [] front s g ok part of_bytes fits long now =
    rw (kept-none space s g) (subst (λ (l : List ℕ). Read l s g) (sym (append-nil front)) now)
read_taken space (b ∷ bytes) front s g ok part of_bytes fits long now =
    let t = next space s b in
    let h = keep space s b g in
    rw (kept_more space s b bytes g) (subst (λ (l : List ℕ). Read l (taken space t bytes) (kept space t bytes h)) (append_assoc front (b ∷ []) bytes)
    (read_taken space bytes (front ++ b ∷ []) t h (sound_next space s b part (of_bytes 0) ok) (bytes_next space s b part (of_bytes 0)) (λ k. of_bytes (suc k)) (fits_next space s b fits) (same-room (keep-lengths space s b g) ∙ long) (read_next space front s b g ok fits long now)))

-- a file from its first byte
pub read_file : (file : List ℕ) (g : Grid) → OfBytes file → Read file (taken (room g) start file) (kept (room g) start file g)
read_file file g of_bytes = read_taken (room g) file [] start g sound_start (λ k. omega arith) of_bytes (fits-start (room g)) refl (read_start g)
