-- Laws of the cell that a byte completes. Assumes nothing.
use mathlib.Core.Path.{◌≡◌, sym, ap, ◌∙◌}
use mathlib.Core.List.{List, [], ◌∷◌, ◌++◌}
use Prim.Native.Nat.{ℕ, suc, ◌*◌, ◌≤◌, ◌<◌}
use native.Mathlib.Omega.{arith}
use borrow.Author.Tests.{lt-ltb, le-ltb}
use lib.ListN.{length, take, set}
use lib.Seq.{slice, take-suc-set}
use Rattle.grid.specs.Grid.{Grid, with_cell}
use Rattle.records.specs.Forms.{one_sad, plain_forms, mark, cell_bytes}
use Rattle.records.specs.Records.{cell_of}
use Rattle.gridfile.specs.Reading.{State, refused_at, begun, header_done, header_end, cell_done, next, keep}
use Rattle.gridfile.proofs.EmittedLaws.{keep-if}
use Rattle.gridfile.proofs.TakenLaws.{past-mark, byte_last}
use Rattle.held.specs.declared.state.Reader.{Reader}
use Rattle.held.specs.Held.{part_bytes, state_of}
use Rattle.held.proofs.HeldLaws.{some_bytes, next-by}
use Rattle.held.proofs.OpenLaws.{Open, number-stays}
use Rattle.held.proofs.ByteLaws.{bytes, held-state, cell-next}

-- most bytes complete none
module _ (space : ℕ) (s : State) (b : ℕ) (g : Grid) (none : s.code ≡ 0 → 0 < s.head.columns → s.cells < s.head.columns * s.head.rows → cell_bytes ≤ suc (length s.part) → ⊥) where
  no_more : (next space s b).cells ≤ s.cells
  unfolding refused_at begun header_done header_end cell_done
  no_more =
      next-by (λ (t : State). t.cells ≤ s.cells) space s b (λ e n. omega arith) (λ e left. omega arith) (λ some. omega arith) (λ e first full. omega arith) (λ e wide more full. absurd (none e wide more full))

  pub keeps_none : keep space s b g ≡ g
  keeps_none = keep-if space s b g ∙ rw (le-ltb s.cells (next space s b).cells no_more)

module _ (space : ℕ) (r : Reader) (b : ℕ) (g : Grid) where
  pub keeps_refused : (r.code ≡ 0 → ⊥) → keep space (state_of r) b g ≡ g
  keeps_refused some = keeps_none space (state_of r) b g (λ e wide more full. some (sym (number-stays r some) ∙ e))

  module _ (o : Open r) where
    by_held : keep space (held-state r o) b g ≡ g → keep space (state_of r) b g ≡ g
    by_held e = ap (λ (s : State). keep space s b g) o.state ∙ e

    pub keeps_fewer : (r.held ≡ 9 → ⊥) → keep space (state_of r) b g ≡ g
    unfolding begun
    keeps_fewer fewer =
        by_held (keeps_none space (held-state r o) b g (λ e wide more full. fewer (omega (arith, o.few, o.long, full, some_bytes r.columns plain_forms))))

    pub keeps_over : r.columns * r.rows ≤ r.cells → keep space (state_of r) b g ≡ g
    unfolding begun
    keeps_over all = by_held (keeps_none space (held-state r o) b g (λ e wide more full. absurd (omega (arith, more))))

-- the tenth of a cell's record completes it
module _ (space : ℕ) (r : Reader) (o : Open r) (b : ℕ) (g : Grid) (read : 0 < r.columns) (more : r.cells < r.columns * r.rows) (full : r.held ≡ 9) where
  completed : next space (held-state r o) b ≡ cell_done (held-state r o) one_sad
  unfolding begun
  completed =
      ap (λ (s : State). next space s b) (sym o.state) ∙ cell-next r o space b read more
      ∙ byte_last mark cell_bytes (cell_done (held-state r o) one_sad) (held-state r o) b (past-mark (length (bytes r o)) b (omega (arith, o.long))) (omega (arith, o.long))

  kept-held : keep space (held-state r o) b g ≡ with_cell r.cells (cell_of one_sad (bytes r o ++ b ∷ [])) g
  unfolding begun cell_done
  kept-held = keep-if space (held-state r o) b g ∙ rw completed (rw (lt-ltb r.cells (suc r.cells) (omega arith)))

  record_bytes_lem : length r.part ≡ part_bytes → bytes r o ++ b ∷ [] ≡ slice 0 cell_bytes (set r.part 9 b)
  record_bytes_lem sixteen = ap (λ (n : ℕ). take n r.part ++ b ∷ []) full ∙ sym (take-suc-set r.part 9 b (omega arith))

  pub keeps_cell : length r.part ≡ part_bytes → keep space (state_of r) b g ≡ with_cell r.cells (cell_of one_sad (slice 0 cell_bytes (set r.part 9 b))) g
  keeps_cell sixteen =
      ap (λ (s : State). keep space s b g) o.state ∙ kept-held
      ∙ ap (λ (l : List ℕ). with_cell r.cells (cell_of one_sad l) g) (record_bytes_lem sixteen)
