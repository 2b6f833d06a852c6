-- Laws of a call, as a step from one state to the next: a refusal stays, two calls in turn are one, and what the last call adds.
-- Assumes nothing.
use mathlib.Core.Path.{◌≡◌, refl, sym, ap, ap₂, ◌∙◌}
use mathlib.Core.Bool.{true, false, not}
use mathlib.Core.Logic.{⊎_elim}
use mathlib.Core.List.{List, [], ◌∷◌, ◌++◌}
use Prim.Native.Nat.{ℕ}
use native.Mathlib.Omega.{arith}
use borrow.Author.Tests.{leb-true, leb-false, eqb-true, eqb-false, eq-eqb, ne_eqb, not-true, not-false}
use lib.Dec.{eqb}
use Rattle.ground.proofs.TestLaws.{tested, both, not_so}
use Rattle.grid.specs.Grid.{Grid, room}
use Rattle.refusal.proofs.RefusalLaws.{first-passed, passes, then_first, none_of}
use Rattle.records.specs.Numbers.{OfBytes}
use Rattle.gridfile.specs.Reading.{State, start, refused_at, begun, header_end, header_done, cell_done, next, taken, kept, ended}
use Rattle.gridfile.proofs.EmittedLaws.{kept_append}
use Rattle.gridfile.proofs.TakenLaws.{taken-append, refused-stays, refused-keeps}
use Rattle.gridfile.proofs.KeptLaws.{same-room, kept-lengths}
use Rattle.held.proofs.HeldLaws.{Sound, sound_refused, with_part, by_test, next-by, bytes-taken, sound_taken}
use Rattle.reader.specs.Calls.{Fits, too_short, taken_from, kept_from, ended_from}

-- before the header any grid fits, and each byte keeps one that does: the header's end refuses any other with 13
pub fits-start : (space : ℕ) → Fits space start
fits-start space e wide = absurd (omega arith)

pub fits_next : (space : ℕ) (s : State) (byte : ℕ) → Fits space s → Fits space (next space s byte)
unfolding refused_at begun header_done header_end cell_done
fits_next space s byte fits =
    next-by (Fits space) space s byte (λ e n z. absurd (omega arith)) (λ e left. fits) (λ some. fits)
    (λ e first full z wide. leb-true _ space (passes 12 _ (first-passed 11 _ _ z).1)) (λ e wide more full. fits)

pub fits-taken : (space : ℕ) (s : State) (bytes : List ℕ) → Fits space s → Fits space (taken space s bytes)
unfolding taken
fits-taken space s [] fits = fits
fits-taken space s (b ∷ bytes) fits = fits-taken space (next space s b) bytes (fits_next space s b fits)

-- the test of a call says the same
module _ (s : State) (g : Grid) where
  passed_fits : too_short s g ≡ false → Fits (room g) s
  unfolding too_short
  passed_fits ok e wide =
      leb-true _ (room g) (not-false _ (rw (eq-eqb s.code 0 e, ne_eqb s.head.columns 0 (λ z. absurd (omega arith))) at ok))

  fits-passed : Fits (room g) s → too_short s g ≡ false
  unfolding too_short
  fits-passed fits =
      not_so (too_short s g) (λ short.
      let code = both (eqb s.code 0) _ short in
      let some = both (not (eqb s.head.columns 0)) _ code.1 in
      let wide = eqb-false s.head.columns 0 (not-true _ some.0) in
      omega (arith, leb-false _ (room g) (not-true _ some.1), fits (eqb-true s.code 0 code.0) (omega (arith, wide))))

-- a call that is refused before its first byte, and one that is not
module _ (s : State) (fragment : List ℕ) (g : Grid) where
  short_taken : too_short s g ≡ true → taken_from s fragment g ≡ refused_at s 13
  unfolding taken_from
  short_taken short = rw short

  short_kept : too_short s g ≡ true → kept_from s fragment g ≡ g
  unfolding kept_from
  short_kept short = rw short

  pub fits-takes : Fits (room g) s → taken_from s fragment g ≡ taken (room g) s fragment
  unfolding taken_from
  fits-takes fits = rw (fits-passed s g fits)

  pub fits-keeps : Fits (room g) s → kept_from s fragment g ≡ kept (room g) s fragment g
  unfolding kept_from
  fits-keeps fits = rw (fits-passed s g fits)

  -- a refusal stays, and keeps nothing more
  pub refused-takes : (s.code ≡ 0 → ⊥) → taken_from s fragment g ≡ s
  refused-takes some = fits-takes (λ z. absurd (some z)) ∙ refused-stays (room g) s some fragment

  pub refused-leaves : (s.code ≡ 0 → ⊥) → kept_from s fragment g ≡ g
  refused-leaves some = fits-keeps (λ z. absurd (some z)) ∙ refused-keeps (room g) s some fragment g

-- two calls in turn are one: no call changes the room, so the later one's test says what the first one's said
module _ (s : State) (xs ys : List ℕ) (g : Grid) where
  module _ (short : too_short s g ≡ true) where
    short_twice : taken_from (taken_from s xs g) ys (kept_from s xs g) ≡ taken_from s (xs ++ ys) g
    unfolding refused_at
    short_twice =
        ap₂ (λ (t : State) (h : Grid). taken_from t ys h) (short_taken s xs g short) (short_kept s xs g short)
        ∙ refused-takes (refused_at s 13) ys g (λ z. absurd (omega arith)) ∙ sym (short_taken s (xs ++ ys) g short)

    short_twice_kept : kept_from (taken_from s xs g) ys (kept_from s xs g) ≡ kept_from s (xs ++ ys) g
    unfolding refused_at
    short_twice_kept =
        ap₂ (λ (t : State) (h : Grid). kept_from t ys h) (short_taken s xs g short) (short_kept s xs g short)
        ∙ refused-leaves (refused_at s 13) ys g (λ z. absurd (omega arith)) ∙ sym (short_kept s (xs ++ ys) g short)

  module _ (fits : Fits (room g) s) where
    abbrev mid : State
    mid = taken (room g) s xs

    abbrev grid : Grid
    grid = kept (room g) s xs g

    same : room grid ≡ room g
    same = same-room (kept-lengths (room g) s xs g)

    still : Fits (room grid) mid
    still = rw same (fits-taken (room g) s xs fits)

    fits-twice : taken_from (taken_from s xs g) ys (kept_from s xs g) ≡ taken_from s (xs ++ ys) g
    fits-twice =
        ap₂ (λ (t : State) (h : Grid). taken_from t ys h) (fits-takes s xs g fits) (fits-keeps s xs g fits) ∙ fits-takes mid ys grid still
        ∙ ap (λ (n : ℕ). taken n mid ys) same ∙ sym (taken-append (room g) s xs ys) ∙ sym (fits-takes s (xs ++ ys) g fits)

    fits-twice_kept : kept_from (taken_from s xs g) ys (kept_from s xs g) ≡ kept_from s (xs ++ ys) g
    fits-twice_kept =
        ap₂ (λ (t : State) (h : Grid). kept_from t ys h) (fits-takes s xs g fits) (fits-keeps s xs g fits) ∙ fits-keeps mid ys grid still
        ∙ ap (λ (n : ℕ). kept n mid ys grid) same ∙ sym (kept_append (room g) s xs ys g) ∙ sym (fits-keeps s (xs ++ ys) g fits)

  pub takes_on : taken_from (taken_from s xs g) ys (kept_from s xs g) ≡ taken_from s (xs ++ ys) g
  takes_on = ⊎_elim short_twice (λ ok. fits-twice (passed_fits s g ok)) (tested (too_short s g))

  pub keeps_on : kept_from (taken_from s xs g) ys (kept_from s xs g) ≡ kept_from s (xs ++ ys) g
  keeps_on = ⊎_elim short_twice_kept (λ ok. fits-twice_kept (passed_fits s g ok)) (tested (too_short s g))

-- a refusal leaves no record begun, whatever the bytes are
abbrev pub Emptied : State → Type 0
Emptied s = (s.code ≡ 0 → ⊥) → s.part ≡ []

empty_taken : (space : ℕ) (s : State) (bytes : List ℕ) → Emptied s → Emptied (taken space s bytes)
unfolding taken refused_at begun header_done header_end cell_done
empty_taken space s [] empty = empty
empty_taken space s (b ∷ bytes) empty =
    empty_taken space (next space s b) bytes (next-by Emptied space s b (λ e n some. refl) (λ e left some. absurd (some e)) (λ some. empty) (λ e first full some. refl) (λ e wide more full some. refl))

-- what a call gives back
module _ (s : State) (fragment : List ℕ) (g : Grid) where
  pub empty_from : Emptied s → Emptied (taken_from s fragment g)
  unfolding taken_from refused_at
  empty_from empty = by_test Emptied (too_short s g) _ _ (λ t some. refl) (λ t. empty_taken (room g) s fragment empty)

  module _ (part : OfBytes s.part) (of_bytes : OfBytes fragment) where
    pub bytes-from : OfBytes (taken_from s fragment g).part
    unfolding taken_from refused_at
    bytes-from = by_test (λ t. OfBytes t.part) (too_short s g) _ _ (λ t k. omega arith) (λ t. bytes-taken (room g) s fragment part of_bytes)

    pub sound_from : Sound s → Sound (taken_from s fragment g)
    unfolding taken_from refused_at
    sound_from ok =
        by_test Sound (too_short s g) _ _ (λ t. sound_refused (λ z. absurd (omega arith)) refl) (λ t. sound_taken (room g) s fragment part of_bytes ok)

-- the last call: its refusal, and that it leaves the shape
module _ (s : State) where
  pub refused_end : (s.code ≡ 0 → ⊥) → s.part ≡ [] → ended_from s ≡ s
  unfolding ended_from ended refused_at
  refused_end some empty = rw (then_first s.code _ some) (rw (ne_eqb s.code 0 some) (with_part s (sym empty)))

  pub empty_end : Emptied (ended_from s)
  unfolding ended_from ended refused_at
  empty_end = by_test Emptied (eqb (ended s) 0) _ _ (λ t some. absurd (some (none_of s.code _ (eqb-true (ended s) 0 t)).0)) (λ t some. refl)

  pub end-number : (ended_from s).code ≡ ended s
  unfolding ended_from ended refused_at
  end-number =
      by_test (λ t. t.code ≡ ended s) (eqb (ended s) 0) _ _ (λ t. let e = eqb-true (ended s) 0 t in (none_of s.code _ e).0 ∙ sym e) (λ t. refl)

  pub end-columns : (ended_from s).head.columns ≡ s.head.columns
  unfolding ended_from refused_at
  end-columns = by_test (λ t. t.head.columns ≡ s.head.columns) (eqb (ended s) 0) _ _ (λ t. refl) (λ t. refl)

  pub end-rows : (ended_from s).head.rows ≡ s.head.rows
  unfolding ended_from refused_at
  end-rows = by_test (λ t. t.head.rows ≡ s.head.rows) (eqb (ended s) 0) _ _ (λ t. refl) (λ t. refl)
