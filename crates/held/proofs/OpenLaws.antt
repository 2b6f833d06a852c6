-- Laws of a settled reader that nothing was wrong with so far. Assumes nothing.
use mathlib.Core.Path.{◌≡◌, sym, ap, ap₂, ◌∙◌}
use mathlib.Core.Bool.{Bool, true, false, ◌&&◌, cond, and-false}
use mathlib.Core.List.{List, ◌++◌}
use mathlib.Core.Logic.{⊎_elim}
use Prim.Native.Nat.{ℕ, suc, ◌-◌, ◌≤◌, ◌<◌, min}
use native.Mathlib.Omega.{arith}
use borrow.Author.Tests.{eqb-true, eq-eqb, ne_eqb, ltb-true, leb-true, le-leb, lt-leb}
use lib.Dec.{leb, ltb, eqb}
use lib.ListN.{length, take, replicate, length-take}
use lib.Seq.{length-take-le}
use Rattle.ground.proofs.TestLaws.{tested, both}
use Rattle.gridfile.specs.Reading.{head_of, between, begun, refused_at}
use Rattle.records.specs.Forms.{plain_forms, most_cells}
use Rattle.held.specs.declared.state.Reader.{Reader}
use Rattle.held.specs.Held.{plain, part_bytes, reader_of, record_bytes, shaped, state_of, Settled}
use Rattle.held.proofs.HeldLaws.{some_bytes}

-- fewer bytes are held than the record has
pub record Open (r : Reader) : Type 0 where
  pub wide : r.columns ≤ most_cells
  pub high : r.rows ≤ most_cells
  pub few : suc r.held ≤ record_bytes r.columns plain_forms
  pub long : length (take r.held r.part) ≡ r.held
  pub tidy : take r.held r.part ++ replicate (part_bytes - r.held) 0 ≡ r.part
  pub state : state_of r ≡ begun (plain 0 r.columns r.rows r.cells) (take r.held r.part)

-- what a reader stands for: its refusal, 12 for columns or rows that no header says, or the bytes that count
module _ (r : Reader) where
  pub stands_refused : (r.code ≡ 0 → ⊥) → reader_of (plain r.code r.columns r.rows r.cells) ≡ reader_of (state_of r)
  unfolding state_of
  stands_refused some = rw (ne_eqb r.code 0 some)

  pub number-stays : (r.code ≡ 0 → ⊥) → (state_of r).code ≡ r.code
  unfolding state_of
  number-stays some = rw (ne_eqb r.code 0 some)

  module _ (none : r.code ≡ 0) where
    by_shape : (t : Bool) → shaped (head_of r.columns r.rows) ≡ t → state_of r ≡ cond t (begun (plain 0 r.columns r.rows r.cells) (take (min r.held (record_bytes r.columns plain_forms - 1)) r.part)) (plain 12 r.columns r.rows r.cells)
    unfolding state_of refused_at begun
    by_shape t e = rw (eq-eqb r.code 0 none) (rw e (rw none))

    pub stands_wide : most_cells < r.columns → reader_of (plain 12 r.columns r.rows r.cells) ≡ reader_of (state_of r)
    unfolding shaped
    stands_wide h = sym (ap reader_of (by_shape false (ap (λ (t : Bool). t && leb r.rows most_cells) (lt-leb r.columns most_cells h))))

    pub stands_high : most_cells < r.rows → reader_of (plain 12 r.columns r.rows r.cells) ≡ reader_of (state_of r)
    unfolding shaped
    stands_high h = sym (ap reader_of (by_shape false (ap (λ (t : Bool). leb r.columns most_cells && t) (lt-leb r.rows most_cells h) ∙ and-false (leb r.columns most_cells))))

    pub stands_open : r.columns ≤ most_cells → r.rows ≤ most_cells → state_of r ≡ begun (plain 0 r.columns r.rows r.cells) (take (min r.held (record_bytes r.columns plain_forms - 1)) r.part)
    unfolding shaped
    stands_open wide high = by_shape true (ap₂ ◌&&◌ (le-leb r.columns most_cells wide) (le-leb r.rows most_cells high))

abbrev pub reader_with : ℕ → ℕ → ℕ → ℕ → List ℕ → Reader
reader_with columns rows cells held part =
    record { code = 0; columns = columns; rows = rows; cells = cells; held = held; part = part; spare = 0 }

-- its first n bytes, and 0 behind them
pub with_bytes : (columns rows cells n : ℕ) (part l : List ℕ) → n ≤ length part → l ≡ take n part ++ replicate (part_bytes - n) 0 → reader_with columns rows cells n l ≡ reader_of (begun (plain 0 columns rows cells) (take n part))
unfolding reader_of begun
with_bytes columns rows cells n part l h e =
    let count = sym (length-take-le n part h) in
    ap₂ (reader_with columns rows cells) count (e ∙ ap (λ (m : ℕ). take n part ++ replicate (part_bytes - m) 0) count)

module _ (r : Reader) (settled : Settled r) (none : r.code ≡ 0) where
  abbrev most : ℕ
  most = record_bytes r.columns plain_forms - 1

  abbrev first : List ℕ
  first = take (min r.held most) r.part

  -- refused with 12 it would have that number
  shape : shaped (head_of r.columns r.rows) ≡ true
  unfolding reader_of
  shape =
      ⊎_elim (λ e. e)
      (λ e. absurd (omega (arith, ap (λ (x : Reader). x.code) (sym settled ∙ ap reader_of (by_shape r none false e)))))
      (tested (shaped (head_of r.columns r.rows)))

  stands : state_of r ≡ begun (plain 0 r.columns r.rows r.cells) first
  stands = by_shape r none true shape

  -- so all that it holds counts
  counted : length first ≡ r.held
  unfolding reader_of begun
  counted = ap (λ (x : Reader). x.held) (sym (ap reader_of stands) ∙ settled)

  fewer : r.held ≤ most
  fewer = omega (arith, counted, length-take (min r.held most) r.part)

  all : min r.held most ≡ r.held
  all = omega (arith, fewer)

  padded : first ++ replicate (part_bytes - length first) 0 ≡ r.part
  unfolding reader_of begun
  padded = ap (λ (x : Reader). x.part) (sym (ap reader_of stands) ∙ settled)

  pub opened : Open r
  unfolding shaped
  opened =
      let halves = both (leb r.columns most_cells) (leb r.rows most_cells) shape in
      let whole = ap (λ (n : ℕ). take n r.part) all in
      record {
        wide = leb-true r.columns most_cells halves.0;
        high = leb-true r.rows most_cells halves.1;
        few = omega (arith, fewer, some_bytes r.columns plain_forms);
        long = sym (ap length whole) ∙ counted;
        tidy = sym (ap₂ (λ (bytes : List ℕ) (n : ℕ). bytes ++ replicate (part_bytes - n) 0) whole counted) ∙ padded;
        state = stands ∙ ap (begun (plain 0 r.columns r.rows r.cells)) whole;
      }

-- at a cell's record, none of whose bytes has come
pub record AtCell (r : Reader) : Type 0 where
  pub none : r.code ≡ 0
  pub wide : 0 < r.columns
  pub state : state_of r ≡ between (head_of r.columns r.rows) r.cells

pub at-cell : (r : Reader) → Settled r → (eqb r.code 0 && (ltb 0 r.columns && eqb r.held 0)) ≡ true → AtCell r
unfolding begun
at-cell r settled t =
    let code = both (eqb r.code 0) _ t in
    let rest = both (ltb 0 r.columns) _ code.1 in
    let none = eqb-true r.code 0 code.0 in
    record {
      none = none;
      wide = ltb-true 0 r.columns rest.0;
      state = (opened r settled none).state ∙ ap (λ (n : ℕ). begun (plain 0 r.columns r.rows r.cells) (take n r.part)) (eqb-true r.held 0 rest.1);
    }
