-- `held::state::Reader::cell_byte` meets its contract: a byte left over, a wrong byte of the mark, one that is not the last, or the
-- last.
use mathlib.Core.Path.{◌≡◌, sym, ap, ◌∙◌}
use Prim.Native.Nat.{ℕ, suc, ◌*◌, ◌^◌, ◌≤◌}
use native.Mathlib.Numerals.{add-one}
use native.Mathlib.Omega.{arith}
use borrow.Author.Tests.{ne_eqb}
use Rattle.records.specs.Forms.{plain_forms, cell_bytes}
use Rattle.gridfile.proofs.WriteLaws.{shape_most}
use Rattle.held.specs.Held.{plain, record_bytes, reader_of}
use Rattle.held.proofs.OpenLaws.{Open, opened}
use Rattle.held.proofs.ByteLaws.{by_wrong, by_more, by_last, cell-over, cell-next, cell-done}
use Rattle.held.proofs.state.Reader.cell_byte.Goals.{Start}
use Rattle.held.proofs.state.Reader.cell_byte.Goals as goal

module _ (c : Start) where
  open_here : Open c.args.self
  open_here = opened c.args.self c.requires.0 c.requires.1

  size : record_bytes c.args.self.columns plain_forms ≡ cell_bytes
  unfolding record_bytes
  size = rw (ne_eqb c.args.self.columns 0 (λ e. absurd (omega (arith, c.requires.2))))

  most : c.args.self.columns * c.args.self.rows ≤ 2 ^ 16
  most = shape_most open_here.wide open_here.high

pub count-requires : goal.count-requires
count-requires c = ((open_here c).wide, (open_here c).high)

pub returns-then-count-self : goal.returns-then-count-self
returns-then-count-self c =
    let a = c.args in
    c.refused.ensures ∙ cell-over a.self (open_here (goal.at.returns-then-count-self c).Start) 0 a.byte c.requires.2 (omega (arith, c.count.ensures, c.if-count-self.true))

pub returns-then-not-mark_holds : goal.returns-then-not-mark_holds
returns-then-not-mark_holds c =
    let a = c.args in
    c.refused-then-not-mark_holds.ensures ∙ by_wrong a.self (open_here (goal.at.returns-then-not-mark_holds c).Start) 0 a.byte cell_bytes _ (cell-next a.self (open_here (goal.at.returns-then-not-mark_holds c).Start) 0 a.byte c.requires.2 (omega (arith, c.count.ensures, c.if-count-self.false))) (sym c.if-not-mark_holds.ensures)

pub begin-requires : goal.begin-requires
begin-requires c =
    (c.requires.0, c.requires.1, omega (arith, size (goal.at.begin-requires c).Start, c.if-self-lt-CELL_LAST.true))

pub returns-then-self-lt-CELL_LAST : goal.returns-then-self-lt-CELL_LAST
returns-then-self-lt-CELL_LAST c =
    let a = c.args in
    c.begin.ensures ∙ by_more a.self (open_here (goal.at.returns-then-self-lt-CELL_LAST c).Start) 0 a.byte cell_bytes _ (cell-next a.self (open_here (goal.at.returns-then-self-lt-CELL_LAST c).Start) 0 a.byte c.requires.2 (omega (arith, c.count.ensures, c.if-count-self.false))) (sym c.if-not-mark_holds.ensures) (omega (arith, c.if-self-lt-CELL_LAST.true))

pub overflow_add-self : goal.overflow_add-self
overflow_add-self c =
    omega (arith, c.count.ensures, c.if-count-self.false, most (goal.at.overflow_add-self c).Start)

pub returns : goal.returns
returns c =
    let a = c.args in
    let full : suc a.self.held ≡ cell_bytes = omega (arith, size (goal.at.returns c).Start, (open_here (goal.at.returns c).Start).few, c.if-self-lt-CELL_LAST.false) in
    c.between.ensures ∙ ap (λ (n : ℕ). reader_of (plain 0 a.self.columns a.self.rows n)) (add-one a.self.cells) ∙ ap reader_of (cell-done a.self (open_here (goal.at.returns c).Start) 0 a.byte c.requires.2)
    ∙ by_last a.self (open_here (goal.at.returns c).Start) 0 a.byte cell_bytes _ (cell-next a.self (open_here (goal.at.returns c).Start) 0 a.byte c.requires.2 (omega (arith, c.count.ensures, c.if-count-self.false))) (sym c.if-not-mark_holds.ensures) full
