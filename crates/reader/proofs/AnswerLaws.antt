-- Laws of what the calls answer, by the reader that they were given, settled. Assumes nothing.
use mathlib.Core.Path.{◌≡◌, sym, ap, ap₂, subst, ◌∙◌}
use mathlib.Core.Bool.{Bool, true, false, ◌&&◌, cond, and-false}
use mathlib.Core.List.{List}
use Prim.Native.Nat.{ℕ, zero, suc, ◌*◌, ◌≤◌, ◌<◌}
use native.Mathlib.Omega.{arith}
use borrow.Author.Tests.{eq-eqb, ne_eqb, lt-ltb, le-leb, lt-leb}
use lib.Dec.{leb, ltb, eqb}
use Rattle.grid.specs.Grid.{Grid, room}
use Rattle.refusal.specs.Refusals.{refuse}
use Rattle.refusal.proofs.RefusalLaws.{then_later}
use Rattle.gridfile.specs.Reading.{State, refused_at, taken, kept, whole, ended}
use Rattle.held.specs.declared.state.Reader.{Reader}
use Rattle.held.specs.Held.{plain, reader_of, state_of, Settled}
use Rattle.held.proofs.HeldLaws.{back, settled_back, sound_of}
use Rattle.reader.specs.Calls.{Fits, too_short, taken_from, kept_from, ended_from, take_reader, take_grid, end_reader}
use Rattle.reader.proofs.CallLaws.{fits-takes, fits-keeps, refused-takes, refused-leaves, refused_end}

-- a cell that is still to come is one of the header's
pub some-columns : (columns rows n : ℕ) → n < columns * rows → 0 < columns
some-columns zero rows n h = absurd (omega arith)
some-columns (suc columns) rows n h = omega arith

module _ (r first : Reader) (e : first ≡ reader_of (state_of r)) where
  abbrev s : State
  s = state_of r

  pub first-state : state_of first ≡ s
  first-state = ap state_of e ∙ back (sound_of r)

  pub first-settled : Settled first
  first-settled = ap (λ (x : Reader). reader_of (state_of x)) e ∙ settled_back (sound_of r) ∙ sym e

  -- its numbers are those of the state
  code_is : first.code ≡ s.code
  unfolding reader_of
  code_is = ap (λ (x : Reader). x.code) e

  columns-are : first.columns ≡ s.head.columns
  unfolding reader_of
  columns-are = ap (λ (x : Reader). x.columns) e

  rows_are : first.rows ≡ s.head.rows
  unfolding reader_of
  rows_are = ap (λ (x : Reader). x.rows) e

  cells_are : first.cells ≡ s.cells
  unfolding reader_of
  cells_are = ap (λ (x : Reader). x.cells) e

  refuses : (n : ℕ) → reader_of (plain n first.columns first.rows first.cells) ≡ reader_of (refused_at s n)
  unfolding refused_at reader_of
  refuses n = rw (columns-are, rows_are, cells_are)

  -- a refused reader
  module _ (some : first.code ≡ 0 → ⊥) where
    some-code : s.code ≡ 0 → ⊥
    some-code z = some (code_is ∙ z)

    pub take-refused : (fragment : List ℕ) (g : Grid) → (first ≡ take_reader r fragment g) × (g ≡ take_grid r fragment g)
    unfolding take_reader take_grid
    take-refused fragment g =
        (e ∙ ap reader_of (sym (refused-takes s fragment g some-code)), sym (refused-leaves s fragment g some-code))

    pub end_refused : first ≡ end_reader r
    unfolding end_reader
    end_refused = e ∙ ap reader_of (sym (refused_end s some-code ((sound_of r).none some-code)))

  module _ (none : first.code ≡ 0) where
    no_code : s.code ≡ 0
    no_code = sym code_is ∙ none

    -- a grid too short for it
    module _ (fragment : List ℕ) (g : Grid) (short : room g < first.columns * first.rows) where
      is_short : too_short s g ≡ true
      unfolding too_short
      is_short =
          let less : room g < s.head.columns * s.head.rows = rw (← columns-are, ← rows_are) short in
          let wide = some-columns s.head.columns s.head.rows (room g) less in
          rw (eq-eqb s.code 0 no_code) (rw (ne_eqb s.head.columns 0 (λ z. absurd (omega arith))) (rw (lt-leb (s.head.columns * s.head.rows) (room g) less)))

      pub take_short : (reader_of (plain 13 first.columns first.rows first.cells) ≡ take_reader r fragment g) × (g ≡ take_grid r fragment g)
      unfolding take_reader take_grid taken_from kept_from
      take_short = (refuses 13 ∙ sym (ap (λ (t : Bool). reader_of (cond t (refused_at s 13) (taken (room g) s fragment))) is_short), sym (ap (λ (t : Bool). cond t g (kept (room g) s fragment g)) is_short))

    -- and one that holds what its header said
    module _ (g : Grid) (holds : first.columns * first.rows ≤ room g) where
      fits : Fits (room g) s
      fits z wide = rw (← columns-are, ← rows_are) holds

      pub first_fits : Fits (room g) (state_of first)
      first_fits = subst (Fits (room g)) (sym first-state) fits

      pub take_done : (fragment : List ℕ) → (reader_of (taken (room g) (state_of first) fragment) ≡ take_reader r fragment g) × (kept (room g) (state_of first) fragment g ≡ take_grid r fragment g)
      unfolding take_reader take_grid
      take_done fragment = (
        ap reader_of (ap (λ (x : State). taken (room g) x fragment) first-state ∙ sym (fits-takes s fragment g fits)),
        ap (λ (x : State). kept (room g) x fragment g) first-state ∙ sym (fits-keeps s fragment g fits),
      )

    -- at the file's end
    number : {t : Bool} → whole s ≡ t → ended s ≡ refuse 11 t
    unfolding ended
    number w = then_later s.code (refuse 11 (whole s)) no_code ∙ ap (refuse 11) w

    ends : (t : Bool) → whole s ≡ t → ended_from s ≡ cond t s (refused_at s 11)
    unfolding ended_from refuse
    ends true w = ap (λ (n : ℕ). cond (eqb n 0) s (refused_at s n)) (number w)
    ends false w = ap (λ (n : ℕ). cond (eqb n 0) s (refused_at s n)) (number w)

    end_short : whole s ≡ false → reader_of (plain 11 first.columns first.rows first.cells) ≡ end_reader r
    unfolding end_reader
    end_short w = refuses 11 ∙ sym (ap reader_of (ends false w))

    pub end_before : first.columns ≡ 0 → reader_of (plain 11 first.columns first.rows first.cells) ≡ end_reader r
    unfolding whole
    end_before z = end_short (ap (λ (n : ℕ). ltb 0 n && leb (s.head.columns * s.head.rows) s.cells) (sym columns-are ∙ z))

    pub end-within : first.cells < first.columns * first.rows → reader_of (plain 11 first.columns first.rows first.cells) ≡ end_reader r
    unfolding whole
    end-within h =
        let less : s.cells < s.head.columns * s.head.rows = rw (← cells_are, ← columns-are, ← rows_are) h in
        end_short (ap (λ (t : Bool). ltb 0 s.head.columns && t) (lt-leb (s.head.columns * s.head.rows) s.cells less) ∙ and-false (ltb 0 s.head.columns))

    pub end_whole : (first.columns ≡ 0 → ⊥) → first.columns * first.rows ≤ first.cells → first ≡ end_reader r
    unfolding end_reader whole
    end_whole wide all =
        let every : s.head.columns * s.head.rows ≤ s.cells = rw (← cells_are, ← columns-are, ← rows_are) all in
        let some : 0 < s.head.columns = omega (arith, columns-are, wide) in
        e ∙ ap reader_of (sym (ends true (ap₂ ◌&&◌ (lt-ltb 0 s.head.columns some) (le-leb (s.head.columns * s.head.rows) s.cells every))))
