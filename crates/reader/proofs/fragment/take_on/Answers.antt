-- `reader::fragment::take_on` meets its contract: whole records come first where one comes next. Assumes nothing.
use borrow.Author.Rules.{rules}
use Rattle.std.proofs.Common.{ℕ, ◌*◌, ◌^◌, ◌≤◌, get_or, refl, sym, subst, Fits as FitsWord, w8, w32, arith}
use Rattle.grid.specs.Grid.{room}
use Rattle.grid.specs.Lent.{lent_mut}
use Rattle.records.specs.Forms.{cell_bytes}
use Rattle.records.specs.Numbers.{OfBytes}
use Rattle.gridfile.proofs.WriteLaws.{shape_most}
use Rattle.held.specs.Held.{state_of}
use Rattle.held.proofs.OpenLaws.{Open, opened, AtCell, at-cell}
use Rattle.held.proofs.SeenLaws.{rest_of}
use Rattle.reader.specs.Calls.{Fits}
use Rattle.reader.proofs.TurnLaws.{Begins, begins, Done, Turned, turned-settled, turned-fits, turned-room, turned-on}
use Rattle.reader.proofs.WholeLaws.{gone_turned}
use Rattle.reader.proofs.fragment.take_on.Goals.{Else-not-at_a_cell, After-between-last, After-take_bytes-2}
use Rattle.reader.proofs.fragment.take_on.Goals as goal

module _ (c : Else-not-at_a_cell) where
  here : AtCell c.args.reader
  here = at-cell c.args.reader c.requires.0 (sym c.if-not-at_a_cell.ensures)

  open_here : Open c.args.reader
  open_here = opened c.args.reader c.requires.0 here.none

  most : c.args.reader.columns * c.args.reader.rows ≤ 2 ^ 16
  most = shape_most open_here.wide open_here.high

  part_bytes : OfBytes c.args.reader.part
  part_bytes k =
      let small : FitsWord w8 (get_or c.args.reader.part k 0) = search rules in
      omega (arith, small)

  fragment_bytes : OfBytes c.args.fragment.now
  fragment_bytes k =
      let small : FitsWord w8 (get_or c.args.fragment.now k 0) = search rules in
      omega (arith, small)

  start : Begins (room (lent_mut c.args.grid.now)) (state_of c.args.reader) c.args.fragment.now (lent_mut c.args.grid.now)
  start = begins c.args.reader part_bytes fragment_bytes c.requires.1 refl

-- as many bytes of the fragment have been taken in as those records have
gone : (c : After-between-last) → Turned (room (lent_mut c.args.grid.now)) (state_of c.args.reader) c.args.fragment.now (lent_mut c.args.grid.now) (cell_bytes * c.take_records-whole.result) c.between-last.result (lent_mut c.take_records-whole.new.grid)
gone c =
    let at = here (goal.at.After-between-last c).Else-not-at_a_cell in
    let taken = c.take_records-whole.ensures in
    let first = c.args.reader in
    gone_turned first.columns first.rows first.cells c.args.fragment.now (lent_mut c.args.grid.now) c.take_records-whole.result at.wide at.state taken.few.1 taken.state taken.kept c.between-last.ensures

all : (c : After-take_bytes-2) → Done (room (lent_mut c.args.grid.now)) (state_of c.args.reader) c.args.fragment.now (lent_mut c.args.grid.now) c.take_bytes-2.result (lent_mut c.take_bytes-2.new.grid)
all c =
    let at = goal.at.After-take_bytes-2 c in
    turned-on (gone at.After-between-last) (start at.Else-not-at_a_cell) (rest_of c.args.fragment.now (cell_bytes * c.take_records-whole.result)) (c.take_bytes-2.ensures.state, c.take_bytes-2.ensures.kept)

pub take_records-whole-requires-clause-said : goal.take_records-whole-requires-clause-said
take_records-whole-requires-clause-said c =
    let at = (goal.at.take_records-whole-requires-clause-said c).Else-not-at_a_cell in
    ((here at).wide, (open_here at).wide, (open_here at).high)

pub take_records-whole-requires-clause-room : goal.take_records-whole-requires-clause-room
take_records-whole-requires-clause-room c =
    let at = here (goal.at.take_records-whole-requires-clause-room c).Else-not-at_a_cell in
    subst (Fits (room (lent_mut c.args.grid.now))) at.state c.requires.1 refl at.wide

pub overflow_cast-whole : goal.overflow_cast-whole
overflow_cast-whole c =
    omega (arith, c.take_records-whole.ensures.few.0, most (goal.at.overflow_cast-whole c).Else-not-at_a_cell)

pub overflow_add-reader : goal.overflow_add-reader
overflow_add-reader c =
    let small : FitsWord w32 c.args.reader.cells = search rules in
    omega (arith, c.take_records-whole.ensures.few.0, most (goal.at.overflow_add-reader c).Else-not-at_a_cell, small)

pub take_bytes-requires-2 : goal.take_bytes-requires-2
take_bytes-requires-2 c =
    let at = goal.at.take_bytes-requires-2 c in
    let t = gone at.After-between-last in
    let begun = start at.Else-not-at_a_cell in
    (turned-settled t begun, subst (λ (n : ℕ). Fits n (state_of c.between-last.result)) (turned-room t begun) (turned-fits t begun))

pub returns-clause-state : goal.returns-clause-state
returns-clause-state c = (all (goal.at.returns-clause-state c).After-take_bytes-2).0

pub returns-clause-kept : goal.returns-clause-kept
returns-clause-kept c = (all (goal.at.returns-clause-kept c).After-take_bytes-2).1
