-- `held::state::Reader::settled` meets its contract: a refusal, columns or rows that no header says, or the bytes that count.
use borrow.Author.Rules.{rules}
use mathlib.Core.Path.{◌≡◌, sym, ap, ◌∙◌}
use Prim.Native.Nat.{ℕ, ◌-◌, ◌≤◌, min}
use native.Mathlib.Omega.{arith}
use lib.ListN.{length, take}
use Rattle.records.specs.Forms.{plain_forms}
use Rattle.gridfile.specs.Reading.{begun}
use Rattle.held.specs.declared.state.Reader.{Reader}
use Rattle.held.specs.Held.{plain, part_bytes, reader_of, record_bytes}
use Rattle.held.proofs.HeldLaws.{some_bytes}
use Rattle.held.proofs.OpenLaws.{stands_refused, stands_wide, stands_high, stands_open, reader_with, with_bytes}
use Rattle.held.proofs.state.Reader.settled.Goals.{After-min-held, then-self-gt-MOST_CELLS-via-then-self-gt-MOST_CELLS, then-self-gt-MOST_CELLS-via-else-self-gt-MOST_CELLS+then-self-gt-MOST_CELLS-2}
use Rattle.held.proofs.state.Reader.settled.Goals as goal

module _ (c : After-min-held) where
  abbrev given : Reader
  given = c.args.self

  count : c.min-held.result ≡ min given.held (record_bytes given.columns plain_forms - 1)
  count = c.min-held.ensures ∙ ap (λ (n : ℕ). min given.held (n - 1)) c.record_bytes.ensures

  few : c.min-held.result ≤ 9
  few = omega (arith, count, some_bytes given.columns plain_forms)

  sixteen : length given.part ≡ part_bytes
  sixteen = search rules

pub returns-then-self-ne0 : goal.returns-then-self-ne0
returns-then-self-ne0 c = c.between.ensures ∙ stands_refused c.args.self c.if-self-ne0.true

pub returns-then-self-gt-MOST_CELLS : goal.returns-then-self-gt-MOST_CELLS
returns-then-self-gt-MOST_CELLS c =
    c.refused.ensures
    ∙ elim c.then-self-gt-MOST_CELLS.branch [
      | then-self-gt-MOST_CELLS-via-then-self-gt-MOST_CELLS w ↦ stands_wide c.args.self c.if-self-ne0.false w.if-self-gt-MOST_CELLS.true
      | then-self-gt-MOST_CELLS-via-else-self-gt-MOST_CELLS+then-self-gt-MOST_CELLS-2 w ↦ stands_high c.args.self c.if-self-ne0.false w.if-self-gt-MOST_CELLS-2.true
    ]

pub overflow_sub-record_bytes : goal.overflow_sub-record_bytes
overflow_sub-record_bytes c = omega (arith, c.record_bytes.ensures, some_bytes c.args.self.columns plain_forms)

pub first_bytes-requires : goal.first_bytes-requires
first_bytes-requires c = omega (arith, few (goal.at.first_bytes-requires c).After-min-held)

pub returns : goal.returns
returns c =
    let at = (goal.at.returns c).After-min-held in
    let r = given at in
    let same : ◌≡◌ {A = Reader} (record r { held = c.min-held.result; part = c.first_bytes.result; spare = 0 }) (reader_with r.columns r.rows r.cells c.min-held.result c.first_bytes.result) = λ i. record { code = c.if-self-ne0.false i; columns = r.columns; rows = r.rows; cells = r.cells; held = c.min-held.result; part = c.first_bytes.result; spare = 0 } in
    same ∙ with_bytes r.columns r.rows r.cells c.min-held.result r.part c.first_bytes.result (omega (arith, few at, sixteen at)) c.first_bytes.ensures
    ∙ ap (λ (n : ℕ). reader_of (begun (plain 0 r.columns r.rows r.cells) (take n r.part))) (count at)
    ∙ sym (ap reader_of (stands_open r c.if-self-ne0.false c.if-self-gt-MOST_CELLS.false c.if-self-gt-MOST_CELLS-2.false))
