-- `reader::fragment::take_fragment` meets its contract: a part is taken in, and then the rest. Assumes nothing.
use borrow.Author.Rules.{rules}
use Rattle.std.proofs.Common.{ℕ, List, get_or, refl, ap, subst, ◌∙◌, Fits as FitsWord, w8, arith}
use Rattle.grid.specs.Grid.{room}
use Rattle.grid.specs.Lent.{lent_mut}
use Rattle.records.specs.Numbers.{OfBytes}
use Rattle.gridfile.specs.Reading.{taken, kept}
use Rattle.held.specs.Held.{reader_of, state_of}
use Rattle.held.proofs.OpenLaws.{opened}
use Rattle.reader.specs.Calls.{Fits}
use Rattle.reader.proofs.TurnLaws.{Begins, begins, Done, Turned, turned-settled, turned-fits, turned-room, turned-on}
use Rattle.reader.proofs.fragment.take_fragment.Goals.{After-take_bytes-first, After-take_on}
use Rattle.reader.proofs.fragment.take_fragment.Goals as goal

module _ (c : After-take_bytes-first) where
  part_bytes : OfBytes c.args.reader.part
  part_bytes k =
      let small : FitsWord w8 (get_or c.args.reader.part k 0) = search rules in
      omega (arith, small)

  fragment_bytes : OfBytes c.args.fragment.now
  fragment_bytes k =
      let small : FitsWord w8 (get_or c.args.fragment.now k 0) = search rules in
      omega (arith, small)

  start : Begins (room (lent_mut c.args.grid.now)) (state_of c.args.reader) c.args.fragment.now (lent_mut c.args.grid.now)
  start = begins c.args.reader part_bytes fragment_bytes c.requires.2 refl

  first : Turned (room (lent_mut c.args.grid.now)) (state_of c.args.reader) c.args.fragment.now (lent_mut c.args.grid.now) c.missing-ahead.result c.take_bytes-first.result (lent_mut c.take_bytes-first.new.grid)
  first =
      let space = room (lent_mut c.args.grid.now) in
      let s = state_of c.args.reader in
      let front = c.split_at.ensures.front in
      record {
        seen = record { few = omega (arith, c.if-fragment-ahead.false); reader = c.take_bytes-first.ensures.state ∙ ap (λ (l : List ℕ). reader_of (taken space s l)) front };
        grid = c.take_bytes-first.ensures.kept ∙ ap (λ (l : List ℕ). kept space s l (lent_mut c.args.grid.now)) front;
      }

all : (c : After-take_on) → Done (room (lent_mut c.args.grid.now)) (state_of c.args.reader) c.args.fragment.now (lent_mut c.args.grid.now) c.take_on.result (lent_mut c.take_on.new.grid)
all c =
    let at = (goal.at.After-take_on c).After-take_bytes-first in
    turned-on (first at) (start at) c.split_at.ensures.back (c.take_on.ensures.state, c.take_on.ensures.kept)

pub missing-ahead-requires : goal.missing-ahead-requires
missing-ahead-requires c = omega (arith, (opened c.args.reader c.requires.0 c.requires.1).few)

pub take_on-requires : goal.take_on-requires
take_on-requires c =
    let at = (goal.at.take_on-requires c).After-take_bytes-first in
    (turned-settled (first at) (start at), subst (λ (n : ℕ). Fits n (state_of c.take_bytes-first.result)) (turned-room (first at) (start at)) (turned-fits (first at) (start at)))

pub returns-clause-state : goal.returns-clause-state
returns-clause-state c = (all (goal.at.returns-clause-state c).After-take_on).0

pub returns-clause-kept : goal.returns-clause-kept
returns-clause-kept c = (all (goal.at.returns-clause-kept c).After-take_on).1
