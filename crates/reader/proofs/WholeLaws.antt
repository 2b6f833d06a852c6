-- Laws of whole cell records that are taken in at once. Assumes nothing.
use mathlib.Core.Path.{◌≡◌, sym, ap, ap₂, ◌∙◌}
use mathlib.Core.Bool.{true}
use mathlib.Core.List.{List, ◌++◌}
use Prim.Native.Nat.{ℕ, ◌+◌, ◌*◌, ◌≤◌, ◌<◌}
use native.Mathlib.Omega.{arith}
use lib.ListN.{length, take}
use lib.Seq.{slice, take-add}
use Rattle.ground.proofs.ListLaws.{take-drop}
use Rattle.grid.specs.Grid.{Grid, with_cell}
use Rattle.records.specs.Forms.{one_sad, mark, cell_bytes}
use Rattle.records.specs.Records.{cell_of}
use Rattle.gridfile.specs.Reading.{State, head_of, between, taken, kept}
use Rattle.gridfile.proofs.EmittedLaws.{kept_append, kept-none}
use Rattle.gridfile.proofs.TakenLaws.{taken-append, record_taken, record_kept}
use Rattle.gridfile.proofs.MarkLaws.{marked_at, eight, eight_long, record_bytes_lem}
use Rattle.gridfile.proofs.KeptLaws.{SameLengths, kept-lengths, taken_free, kept_free}
use Rattle.held.specs.declared.state.Reader.{Reader}
use Rattle.held.specs.Held.{reader_of}
use Rattle.reader.proofs.TurnLaws.{Turned}

-- the first i records have been taken in
pub record Gone (columns rows cells : ℕ) (fragment : List ℕ) (lent : Grid) (i : ℕ) (g : Grid) : Type 0 where
  pub few : cell_bytes * i ≤ length fragment
  pub state : taken 0 (between (head_of columns rows) cells) (take (cell_bytes * i) fragment) ≡ between (head_of columns rows) (cells + i)
  pub grid : g ≡ kept 0 (between (head_of columns rows) cells) (take (cell_bytes * i) fragment) lent

module _ (columns rows cells : ℕ) (fragment : List ℕ) (lent : Grid) where
  abbrev from : State
  from = between (head_of columns rows) cells

  pub gone_none : Gone columns rows cells fragment lent 0 lent
  unfolding taken
  gone_none = record { few = omega arith; state = ap (between (head_of columns rows)) (omega arith); grid = sym (kept-none 0 from lent) }

  module _ (i : ℕ) (g : Grid) (l : Gone columns rows cells fragment lent i g) where
    abbrev p : ℕ
    p = cell_bytes * i

    pub gone_long : SameLengths g lent
    gone_long = rw l.grid (kept-lengths 0 from (take p fragment) lent)

    module _ (wide : 0 < columns) (more : cells + i < columns * rows) (there : p + cell_bytes ≤ length fragment) (ok : marked_at fragment p ≡ true) where
      abbrev one : List ℕ
      one = mark ++ eight fragment p there

      front : take (cell_bytes * (i + 1)) fragment ≡ take p fragment ++ one
      front =
          let ten : cell_bytes * (i + 1) ≡ p + cell_bytes = omega arith in
          ap (λ (n : ℕ). take n fragment) ten ∙ take-add p cell_bytes fragment
          ∙ ap (λ (bytes : List ℕ). take p fragment ++ bytes) (take-drop p cell_bytes fragment ∙ record_bytes_lem fragment p there ok)

      pub gone_more : Gone columns rows cells fragment lent (i + 1) (with_cell (cells + i) (cell_of one_sad (slice p (p + cell_bytes) fragment)) g)
      gone_more =
          record {
            few = omega arith;
            state = ap (taken 0 from) front ∙ taken-append 0 from (take p fragment) one ∙ ap (λ (s : State). taken 0 s one) l.state ∙ record_taken 0 columns rows (cells + i) wide more (eight fragment p there) (eight_long fragment p there) ∙ ap (between (head_of columns rows)) (omega arith);
            grid = ap (λ (bytes : List ℕ). with_cell (cells + i) (cell_of one_sad bytes) g) (record_bytes_lem fragment p there ok) ∙ sym (ap (λ (bytes : List ℕ). kept 0 from bytes lent) front ∙ kept_append 0 from (take p fragment) one lent ∙ ap₂ (λ (s : State) (h : Grid). kept 0 s one h) l.state (sym l.grid) ∙ record_kept 0 columns rows (cells + i) wide more (eight fragment p there) (eight_long fragment p there) g);
          }

  -- as many bytes, whatever room there is
  pub gone_turned : {space : ℕ} {s : State} {r : Reader} {g : Grid} (i : ℕ) → 0 < columns → s ≡ from → cell_bytes * i ≤ length fragment → taken 0 from (take (cell_bytes * i) fragment) ≡ between (head_of columns rows) (cells + i) → g ≡ kept 0 from (take (cell_bytes * i) fragment) lent → r ≡ reader_of (between (head_of columns rows) (cells + i)) → Turned space s fragment lent (cell_bytes * i) r g
  gone_turned {space} i wide is few state grid e =
      let bytes = take (cell_bytes * i) fragment in
      record {
        seen = record { few = few; reader = e ∙ ap reader_of (sym state ∙ taken_free 0 space from bytes wide ∙ ap (λ (x : State). taken space x bytes) (sym is)) };
        grid = grid ∙ kept_free 0 space from bytes lent wide ∙ ap (λ (x : State). kept space x bytes lent) (sym is);
      }
