-- `held::state::Reader::header_byte` meets its contract: a wrong byte of the mark, one that is not the last, or the last.
use mathlib.Core.Path.{◌≡◌, sym, ap, ◌∙◌}
use Prim.Native.Nat.{ℕ}
use native.Mathlib.Omega.{arith}
use Rattle.records.specs.Forms.{plain_forms, header_bytes}
use Rattle.held.specs.Held.{record_bytes, reader_of}
use Rattle.held.proofs.OpenLaws.{Open, opened}
use Rattle.held.proofs.ByteLaws.{by_wrong, by_more, by_last, head-next, head_done}
use Rattle.held.proofs.state.Reader.header_byte.Goals.{Start}
use Rattle.held.proofs.state.Reader.header_byte.Goals as goal

module _ (c : Start) where
  open_here : Open c.args.self
  open_here = opened c.args.self c.requires.0 c.requires.1

  size : record_bytes c.args.self.columns plain_forms ≡ header_bytes
  unfolding record_bytes
  size = ap (λ (n : ℕ). record_bytes n plain_forms) c.requires.2

pub returns-then-not-mark_holds : goal.returns-then-not-mark_holds
returns-then-not-mark_holds c =
    let a = c.args in
    c.refused.ensures ∙ by_wrong a.self (open_here (goal.at.returns-then-not-mark_holds c).Start) a.room a.byte header_bytes _ (head-next a.self (open_here (goal.at.returns-then-not-mark_holds c).Start) a.room a.byte c.requires.2) (sym c.if-not-mark_holds.ensures)

pub begin-requires : goal.begin-requires
begin-requires c =
    (c.requires.0, c.requires.1, omega (arith, size (goal.at.begin-requires c).Start, c.if-self-lt-HEADER_LAST.true))

pub returns-then-self-lt-HEADER_LAST : goal.returns-then-self-lt-HEADER_LAST
returns-then-self-lt-HEADER_LAST c =
    let a = c.args in
    c.begin.ensures ∙ by_more a.self (open_here (goal.at.returns-then-self-lt-HEADER_LAST c).Start) a.room a.byte header_bytes _ (head-next a.self (open_here (goal.at.returns-then-self-lt-HEADER_LAST c).Start) a.room a.byte c.requires.2) (sym c.if-not-mark_holds.ensures) (omega (arith, c.if-self-lt-HEADER_LAST.true))

pub returns : goal.returns
returns c =
    let a = c.args in
    let full : a.self.held ≡ 3 = omega (arith, size (goal.at.returns c).Start, (open_here (goal.at.returns c).Start).few, c.if-self-lt-HEADER_LAST.false) in
    c.header_end.ensures ∙ ap reader_of (sym (head_done a.self (open_here (goal.at.returns c).Start) a.room a.byte c.requires.2 full))
    ∙ by_last a.self (open_here (goal.at.returns c).Start) a.room a.byte header_bytes _ (head-next a.self (open_here (goal.at.returns c).Start) a.room a.byte c.requires.2) (sym c.if-not-mark_holds.ensures) (omega (arith, full))
