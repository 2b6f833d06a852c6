-- A file that ends with no refusal has columns, as a header says them.
use borrow.Author.Tests.{eqb-true, eqb-false, ltb-true}
use mathlib.Core.Path.{◌≡◌, refl, sym, ap, ◌∙◌}
use mathlib.Core.Bool.{Bool, true, false, cond}
use Prim.Native.Nat.{◌*◌, ◌≤◌, ◌<◌}
use native.Mathlib.Omega.{arith}
use lib.Dec.{ltb, leb, eqb}
use Rattle.ground.proofs.TestLaws.{both}
use Rattle.refusal.specs.Refusals.{refuse}
use Rattle.refusal.proofs.RefusalLaws.{none_of, passes}
use Rattle.gridfile.specs.Reading.{refused_at, whole, ended}
use Rattle.held.specs.declared.state.Reader.{Reader}
use Rattle.held.specs.Held.{reader_of, state_of}
use Rattle.held.proofs.HeldLaws.{sound_of}
use Rattle.reader.specs.Calls.{ended_from, end_reader}
use Rattle.passes.proofs.files.extent_at_end.Goals as goal

module _ (r : Reader) where
  by : (t : Bool) → eqb (ended (state_of r)) 0 ≡ t → (reader_of (cond t (state_of r) (refused_at (state_of r) (ended (state_of r))))).code ≡ 0 → (0 < (reader_of (cond t (state_of r) (refused_at (state_of r) (ended (state_of r))))).columns) × ((reader_of (cond t (state_of r) (refused_at (state_of r) (ended (state_of r))))).columns ≤ 256) × ((reader_of (cond t (state_of r) (refused_at (state_of r) (ended (state_of r))))).rows ≤ 256)
  unfolding reader_of refused_at ended whole
  by true e z =
      let s = state_of r in
      let parts = none_of s.code (refuse 11 (whole s)) (eqb-true (ended s) 0 e) in
      let some = (both (ltb 0 s.head.columns) (leb (s.head.columns * s.head.rows) s.cells) (passes 10 (whole s) parts.1)).0 in
      (ltb-true 0 s.head.columns some, (sound_of r).columns z, (sound_of r).rows z)
  by false e z = absurd (eqb-false (ended (state_of r)) 0 e z)

  at-end : (end_reader r).code ≡ 0 → (0 < (end_reader r).columns) × ((end_reader r).columns ≤ 256) × ((end_reader r).rows ≤ 256)
  unfolding end_reader ended_from
  at-end = by (eqb (ended (state_of r)) 0) refl

pub invariant_of-result : goal.invariant_of-result
invariant_of-result c =
    let is = c.lockdapple_reader_end-last.ensures in
    let ends = at-end c.args.reader (sym (ap (λ (r : Reader). r.code) is) ∙ c.in-0.is) in
    let columns = ap (λ (r : Reader). r.columns) is in
    let rows = ap (λ (r : Reader). r.rows) is in
    let some = c.if-last-gt0.true in
    record { wide = (omega arith, omega arith); high = (omega arith, omega arith) }
