-- Laws of a read's answer: the header's refusal, then that of the cells, then the cells. Assumes nothing.
use mathlib.Core.Path.{◌≡◌, sym, ap, ap₂, subst, ◌∙◌}
use mathlib.Core.Bool.{cond}
use mathlib.Core.List.{List}
use Prim.Native.Nat.{ℕ, ◌+◌, ◌*◌, ◌≤◌}
use native.Mathlib.Omega.{arith}
use borrow.Author.Tests.{ne_eqb}
use lib.Dec.{eqb}
use lib.ListN.{length, get_or, drop}
use Rattle.grid.specs.Grid.{Grid, room}
use Rattle.records.specs.Forms.{header_bytes}
use Rattle.gridfile.specs.declared.read.Shape.{Shape}
use Rattle.gridfile.specs.Reading.{State, head_of, between, start, taken, kept, ended, read_refusal, shape_of, read_answer, read_grid}
use Rattle.gridfile.proofs.HeaderLaws.{head_number}
use Rattle.gridfile.proofs.OpenedLaws.{Opened, head-refused, opened, opened_keeps}
use Rattle.gridfile.proofs.KeptLaws.{taken-columns, taken-rows, taken_free, kept_free}

-- a number other than 0 is all that is answered
abbrev pub refusal_of : ℕ → Shape
refusal_of n = record { code = n; columns = 0; rows = 0 }

module _ (file : List ℕ) (g : Grid) (n : ℕ) (number : read_refusal file g ≡ n) (some : n ≡ 0 → ⊥) where
  pub refused-answer : read_answer file g ≡ refusal_of n
  unfolding read_answer shape_of
  refused-answer = rw number (rw (ne_eqb n 0 some))

  pub refused-grid : read_grid file g ≡ g
  unfolding read_grid
  refused-grid = rw number (rw (ne_eqb n 0 some))

module _ (file : List ℕ) (g : Grid) where
  pub header-number : (head_number (room g) file ≡ 0 → ⊥) → read_refusal file g ≡ head_number (room g) file
  unfolding read_refusal
  header-number some = head-refused (room g) file some

-- a header that nothing is wrong with, with room for so many cells
module _ (file : List ℕ) (space : ℕ) (fine : head_number space file ≡ 0) where
  abbrev head : Opened space file
  head = opened space file fine

  pub header-there : header_bytes ≤ length file
  header-there = omega (arith, ap length head.parts)

  columns-here : head.c ≡ get_or file 2 0
  columns-here = sym (ap (λ (l : List ℕ). get_or l 2 0) head.parts)

  rows-here : head.d ≡ get_or file 3 0
  rows-here = sym (ap (λ (l : List ℕ). get_or l 3 0) head.parts)

  pub header-fits : (get_or file 2 0 + 1) * (get_or file 3 0 + 1) ≤ space
  header-fits = subst (λ (n : ℕ). n ≤ space) (ap₂ (λ (c d : ℕ). (c + 1) * (d + 1)) columns-here rows-here) head.fits

-- and the cells behind it, where it is a lent grid that has the room
module _ (file : List ℕ) (g : Grid) (fine : head_number (room g) file ≡ 0) where
  abbrev pub at_cells : State
  at_cells = between (head_of (get_or file 2 0 + 1) (get_or file 3 0 + 1)) 0

  cells-here : between (head_of ((head file (room g) fine).c + 1) ((head file (room g) fine).d + 1)) 0 ≡ at_cells
  cells-here = ap₂ (λ (c d : ℕ). between (head_of (c + 1) (d + 1)) 0) (columns-here file (room g) fine) (rows-here file (room g) fine)

  tail_here : (head file (room g) fine).tail ≡ drop header_bytes file
  tail_here = sym (ap (drop header_bytes) (head file (room g) fine).parts)

  header-taken : taken (room g) start file ≡ taken (room g) at_cells (drop header_bytes file)
  header-taken = (head file (room g) fine).on ∙ ap₂ (taken (room g)) cells-here tail_here

  pub cells-number : read_refusal file g ≡ ended (taken 0 at_cells (drop header_bytes file))
  unfolding read_refusal
  cells-number = ap ended (header-taken ∙ taken_free (room g) 0 at_cells (drop header_bytes file) (omega arith))

  module _ (none : ended (taken 0 at_cells (drop header_bytes file)) ≡ 0) where
    pub done_answer : read_answer file g ≡ shape_of 0 (get_or file 2 0 + 1) (get_or file 3 0 + 1)
    unfolding read_answer
    done_answer =
        ap₂ (λ (n : ℕ) (s : State). shape_of n s.head.columns s.head.rows) (cells-number ∙ none) header-taken
        ∙ ap₂ (shape_of 0) (taken-columns (room g) at_cells (drop header_bytes file) (omega arith)) (taken-rows (room g) at_cells (drop header_bytes file) (omega arith))

    pub done_grid : read_grid file g ≡ kept 0 at_cells (drop header_bytes file) g
    unfolding read_grid
    done_grid =
        ap (λ (n : ℕ). cond (eqb n 0) (kept (room g) start file g) g) (cells-number ∙ none) ∙ opened_keeps (head file (room g) fine) g
        ∙ ap₂ (λ (s : State) (bytes : List ℕ). kept (room g) s bytes g) cells-here tail_here
        ∙ kept_free (room g) 0 at_cells (drop header_bytes file) g (omega arith)
