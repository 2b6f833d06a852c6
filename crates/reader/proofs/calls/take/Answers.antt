-- `reader::calls::take` meets its contract: a refusal stays, 13 for a grid too short, else the fragment is taken in.
use Rattle.std.proofs.Common.{◌*◌, ◌≤◌, ◌∙◌, arith}
use Rattle.grid.specs.Grid.{room}
use Rattle.grid.specs.Lent.{lent_mut}
use Rattle.held.proofs.OpenLaws.{Open, opened}
use Rattle.reader.proofs.AnswerLaws.{first-settled, take-refused, take_short, first_fits, take_done}
use Rattle.reader.proofs.calls.take.Goals.{Else-first-ne0, Else-room-count}
use Rattle.reader.proofs.calls.take.Goals as goal

open_here : (c : Else-first-ne0) → Open c.settled-first.result
open_here c =
    opened c.settled-first.result (first-settled c.args.reader c.settled-first.result c.settled-first.ensures) c.if-first-ne0.false

-- the grid holds what the header said
holds : (c : Else-room-count) → c.settled-first.result.columns * c.settled-first.result.rows ≤ room (lent_mut c.args.grid.now)
holds c = omega (arith, c.count.ensures, c.room.ensures, c.if-room-count.false)

pub returns-then-first-ne0-clause-state : goal.returns-then-first-ne0-clause-state
returns-then-first-ne0-clause-state c =
    (take-refused c.args.reader c.settled-first.result c.settled-first.ensures c.if-first-ne0.true c.args.fragment.now (lent_mut c.args.grid.now)).0

pub returns-then-first-ne0-clause-kept : goal.returns-then-first-ne0-clause-kept
returns-then-first-ne0-clause-kept c =
    (take-refused c.args.reader c.settled-first.result c.settled-first.ensures c.if-first-ne0.true c.args.fragment.now (lent_mut c.args.grid.now)).1

pub count-requires : goal.count-requires
count-requires c =
    let here = open_here (goal.at.count-requires c).Else-first-ne0 in (here.wide, here.high)

pub returns-then-room-count-clause-state : goal.returns-then-room-count-clause-state
returns-then-room-count-clause-state c =
    c.refused.ensures
    ∙ (take_short c.args.reader c.settled-first.result c.settled-first.ensures c.if-first-ne0.false c.args.fragment.now (lent_mut c.args.grid.now) (omega (arith, c.count.ensures, c.room.ensures, c.if-room-count.true))).0

pub returns-then-room-count-clause-kept : goal.returns-then-room-count-clause-kept
returns-then-room-count-clause-kept c =
    (take_short c.args.reader c.settled-first.result c.settled-first.ensures c.if-first-ne0.false c.args.fragment.now (lent_mut c.args.grid.now) (omega (arith, c.count.ensures, c.room.ensures, c.if-room-count.true))).1

pub take_fragment-requires : goal.take_fragment-requires
take_fragment-requires c = (
  first-settled c.args.reader c.settled-first.result c.settled-first.ensures,
  c.if-first-ne0.false,
  first_fits c.args.reader c.settled-first.result c.settled-first.ensures c.if-first-ne0.false (lent_mut c.args.grid.now) (holds (goal.at.take_fragment-requires c).Else-room-count),
)

pub returns-clause-state : goal.returns-clause-state
returns-clause-state c =
    c.take_fragment.ensures.state
    ∙ (take_done c.args.reader c.settled-first.result c.settled-first.ensures c.if-first-ne0.false (lent_mut c.args.grid.now) (holds (goal.at.returns-clause-state c).Else-room-count) c.args.fragment.now).0

pub returns-clause-kept : goal.returns-clause-kept
returns-clause-kept c =
    c.take_fragment.ensures.kept
    ∙ (take_done c.args.reader c.settled-first.result c.settled-first.ensures c.if-first-ne0.false (lent_mut c.args.grid.now) (holds (goal.at.returns-clause-kept c).Else-room-count) c.args.fragment.now).1
