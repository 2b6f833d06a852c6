-- `held::state::Reader::begin` meets its contract: the byte goes behind those that are held. Assumes nothing.
use mathlib.Core.Path.{◌≡◌, sym, ap, ◌∙◌}
use Prim.Native.Nat.{suc, ◌+◌, ◌<◌}
use native.Mathlib.Omega.{arith}
use lib.ListN.{set}
use Rattle.records.specs.Forms.{plain_forms}
use Rattle.held.specs.declared.state.Reader.{Reader}
use Rattle.held.specs.Held.{part_bytes, reader_of}
use Rattle.held.proofs.HeldLaws.{some_bytes}
use Rattle.held.proofs.OpenLaws.{Open, opened}
use Rattle.held.proofs.ByteLaws.{begins, grown}
use Rattle.held.proofs.state.Reader.begin.Goals.{Start}
use Rattle.held.proofs.state.Reader.begin.Goals as goal

module _ (c : Start) where
  open_here : Open c.args.self
  open_here = opened c.args.self c.requires.0 c.requires.1

  fits : suc c.args.self.held < part_bytes
  fits = omega (arith, c.requires.2, some_bytes c.args.self.columns plain_forms)

pub bounds-part-self : goal.bounds-part-self
bounds-part-self c = omega (arith, fits (goal.at.bounds-part-self c).Start)

pub overflow_add-result : goal.overflow_add-result
overflow_add-result c = omega (arith, fits (goal.at.overflow_add-result c).Start)

pub returns : goal.returns
unfolding reader_of
returns c =
    let r = c.args.self in
    let spare : r.spare ≡ 0 = ap (λ (x : Reader). x.spare) (sym c.requires.0) in
    let same : ◌≡◌ {A = Reader} (record r { held = r.held + 1; part = set r.part r.held c.args.byte }) (grown r (open_here (goal.at.returns c).Start) c.args.byte) = λ i. record { code = c.requires.1 i; columns = r.columns; rows = r.rows; cells = r.cells; held = r.held + 1; part = set r.part r.held c.args.byte; spare = spare i } in
    same ∙ begins r (open_here (goal.at.returns c).Start) c.args.byte (omega (arith, fits (goal.at.returns c).Start))
