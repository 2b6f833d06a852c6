-- `compare::calls::lockdapple_grids_next` meets its contract. Assumes nothing.
use Rattle.compare.proofs.AnswerLaws.{refused_next, found_next}
use Rattle.compare.proofs.calls.lockdapple_grids_next.Goals as goal

pub next_differing-requires : goal.next_differing-requires
next_differing-requires c =
    let held = rw (c.room.ensures, c.room-2.ensures) at c.in-Ok.ensures in
    (held.2, held.3)

pub returns-in-Err : goal.returns-in-Err
returns-in-Err c =
    let refused = rw (c.room.ensures, c.room-2.ensures) at c.in-Err.ensures in
    refused_next _ _ _ _ _ refused.0 refused.1

pub returns-in-Ok : goal.returns-in-Ok
returns-in-Ok c =
    let held = rw (c.room.ensures, c.room-2.ensures) at c.in-Ok.ensures in
    found_next _ _ _ _ _ held.0 held.1 (rw c.next_differing.ensures at c.unwrap_or-place.ensures)
