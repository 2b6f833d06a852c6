-- `reader::fragment::take_bytes` meets its contract: after each turn the bytes so far have been taken in. Assumes nothing.
use borrow.Author.Rules.{rules}
use Rattle.std.proofs.Common.{ℕ, get_or, sym, subst, Fits as FitsWord, w8, arith}
use Rattle.grid.specs.Grid.{room}
use Rattle.grid.specs.Lent.{lent_mut}
use Rattle.records.specs.Numbers.{OfBytes}
use Rattle.grid.proofs.LentLaws.{same-refl, same-trans}
use Rattle.held.specs.Held.{state_of}
use Rattle.reader.specs.Calls.{Fits}
use Rattle.reader.proofs.TurnLaws.{Begins, begins, Done, turned_none, turned-all, turned-settled, turned-fits, turned-room, turned_more, turned-refused}
use Rattle.reader.proofs.fragment.take_bytes.Goals.{At-loop-byte, Then-held-ne0, After-loop-byte}
use Rattle.reader.proofs.fragment.take_bytes.Goals as goal

module _ (c : At-loop-byte) where
  part_bytes : OfBytes c.args.reader.part
  part_bytes k =
      let small : FitsWord w8 (get_or c.args.reader.part k 0) = search rules in
      omega (arith, small)

  fragment_bytes : OfBytes c.args.fragment.now
  fragment_bytes k =
      let small : FitsWord w8 (get_or c.args.fragment.now k 0) = search rules in
      omega (arith, small)

  start : Begins c.room-room.result (state_of c.args.reader) c.args.fragment.now (lent_mut c.args.grid.now)
  start =
      begins c.args.reader part_bytes fragment_bytes (subst (λ (n : ℕ). Fits n (state_of c.args.reader)) (sym c.room-room.ensures) c.requires.1) c.room-room.ensures

-- all that counts has been taken in
refused : (c : Then-held-ne0) → Done (room (lent_mut c.args.grid.now)) (state_of c.args.reader) c.args.fragment.now (lent_mut c.args.grid.now) c.loop-byte.held (lent_mut c.loop-byte.grid)
refused c =
    let done = turned-refused c.loop-byte.invariant.turned (start (goal.at.Then-held-ne0 c).At-loop-byte) c.if-held-ne0.true in
    subst (λ (n : ℕ). Done n (state_of c.args.reader) c.args.fragment.now (lent_mut c.args.grid.now) c.loop-byte.held (lent_mut c.loop-byte.grid)) c.room-room.ensures done

all : (c : After-loop-byte) → Done (room (lent_mut c.args.grid.now)) (state_of c.args.reader) c.args.fragment.now (lent_mut c.args.grid.now) c.loop-byte.held (lent_mut c.loop-byte.grid)
all c =
    let done = turned-all c.loop-byte.invariant.turned c.loop-byte-test.false in
    subst (λ (n : ℕ). Done n (state_of c.args.reader) c.args.fragment.now (lent_mut c.args.grid.now) c.loop-byte.held (lent_mut c.loop-byte.grid)) c.room-room.ensures done

pub loop-byte-init : goal.loop-byte-init
loop-byte-init c = record { turned = turned_none _ _ _ _ _ (sym c.requires.0); same = same-refl c.args.grid.now }

pub keep_byte-requires : goal.keep_byte-requires
keep_byte-requires c =
    let t = c.loop-byte.invariant.turned in
    let begun = start (goal.at.keep_byte-requires c).At-loop-byte in
    (turned-settled t begun, subst (λ (n : ℕ). Fits n (state_of c.loop-byte.held)) (turned-room t begun) (turned-fits t begun))

pub next_byte-held-requires : goal.next_byte-held-requires
next_byte-held-requires c =
    turned-settled c.loop-byte.invariant.turned (start (goal.at.next_byte-held-requires c).At-loop-byte)

pub loop-byte-preserved : goal.loop-byte-preserved
loop-byte-preserved c =
    record {
      turned = turned_more c.loop-byte.invariant.turned (start (goal.at.loop-byte-preserved c).At-loop-byte) c.loop-byte-test.true c.next_byte-held.ensures c.keep_byte.ensures.kept;
      same = same-trans c.loop-byte.invariant.same c.keep_byte.ensures.same;
    }

pub returns-then-held-ne0-clause-state : goal.returns-then-held-ne0-clause-state
returns-then-held-ne0-clause-state c = (refused (goal.at.returns-then-held-ne0-clause-state c).Then-held-ne0).0

pub returns-then-held-ne0-clause-kept : goal.returns-then-held-ne0-clause-kept
returns-then-held-ne0-clause-kept c = (refused (goal.at.returns-then-held-ne0-clause-kept c).Then-held-ne0).1

pub returns-clause-state : goal.returns-clause-state
returns-clause-state c = (all (goal.at.returns-clause-state c).After-loop-byte).0

pub returns-clause-kept : goal.returns-clause-kept
returns-clause-kept c = (all (goal.at.returns-clause-kept c).After-loop-byte).1
