-- `held::check::check_fragment` meets its contract: after i turns the first i bytes have been seen. Assumes nothing.
use borrow.Author.Rules.{rules}
use mathlib.Core.Path.{◌≡◌, sym, ap, ◌∙◌}
use mathlib.Core.List.{List}
use Prim.Native.Nat.{ℕ, ◌*◌}
use native.Mathlib.Omega.{arith}
use lib.ListN.{get_or}
use mir.Syntax.{w8}
use mir.Val as val
use Rattle.records.specs.Numbers.{OfBytes}
use Rattle.records.specs.Forms.{most_cells}
use Rattle.gridfile.specs.Reading.{State, taken}
use Rattle.held.specs.declared.state.Reader.{Reader}
use Rattle.held.specs.Held.{reader_of, state_of, checked}
use Rattle.held.proofs.HeldLaws.{sound_of, back}
use Rattle.held.proofs.SeenLaws.{Starts, starts, seen_none, seen_all, seen_settled, seen_more, seen_refused}
use Rattle.held.proofs.check.check_fragment.Goals.{After-settled-held, At-loop-byte}
use Rattle.held.proofs.check.check_fragment.Goals as goal

module _ (c : After-settled-held) where
  abbrev given : Reader
  given = c.args.reader

  same : state_of c.settled-held.result ≡ state_of given
  same = ap state_of c.settled-held.ensures ∙ back (sound_of given)

module _ (c : At-loop-byte) where
  abbrev first : Reader
  first = c.settled-held.result

  abbrev bytes : List ℕ
  bytes = c.args.fragment.now

  part_bytes : OfBytes first.part
  part_bytes k =
      let small : val.Fits w8 (get_or first.part k 0) = search rules in
      omega (arith, small)

  fragment_bytes : OfBytes bytes
  fragment_bytes k =
      let small : val.Fits w8 (get_or bytes k 0) = search rules in
      omega (arith, small)

  start : Starts (state_of first) bytes
  start = starts first part_bytes fragment_bytes

  -- what is seen from the reader settled is seen from the one given
  from_given : {r : Reader} → r ≡ reader_of (taken (most_cells * most_cells) (state_of first) bytes) → r ≡ reader_of (checked (given (goal.at.At-loop-byte c).After-settled-held) bytes)
  unfolding checked
  from_given e = e ∙ ap (λ (s : State). reader_of (taken (most_cells * most_cells) s bytes)) (same (goal.at.At-loop-byte c).After-settled-held)

pub loop-byte-init : goal.loop-byte-init
loop-byte-init c = seen_none _ _ _ _ (c.settled-held.ensures ∙ ap reader_of (sym (same c)))

pub returns-then-held-ne0 : goal.returns-then-held-ne0
returns-then-held-ne0 c =
    from_given (goal.at.returns-then-held-ne0 c).At-loop-byte (seen_refused c.loop-byte.invariant (start (goal.at.returns-then-held-ne0 c).At-loop-byte) c.if-held-ne0.true)

pub next_byte-held-requires : goal.next_byte-held-requires
next_byte-held-requires c =
    seen_settled c.loop-byte.invariant (start (goal.at.next_byte-held-requires c).At-loop-byte)

pub loop-byte-preserved : goal.loop-byte-preserved
loop-byte-preserved c =
    seen_more c.loop-byte.invariant (start (goal.at.loop-byte-preserved c).At-loop-byte) c.loop-byte-test.true c.next_byte-held.ensures

pub returns : goal.returns
returns c = from_given (goal.at.returns c).At-loop-byte (seen_all c.loop-byte.invariant c.loop-byte-test.false)
