-- `held::state::record_bytes` meets its contract. Assumes nothing.
use mathlib.Core.Path.{sym, ap}
use Prim.Native.Nat.{ℕ}
use borrow.Author.Tests.{ne_eqb}
use Rattle.records.specs.Forms.{plain_forms}
use Rattle.held.specs.Held.{record_bytes}
use Rattle.held.proofs.state.record_bytes.Goals as goal

pub returns-then-columns-eq0 : goal.returns-then-columns-eq0
unfolding record_bytes
returns-then-columns-eq0 c = sym (ap (λ (n : ℕ). record_bytes n plain_forms) c.if-columns-eq0.true)

pub returns-else-columns-eq0 : goal.returns-else-columns-eq0
unfolding record_bytes
returns-else-columns-eq0 c = rw (ne_eqb c.args.columns 0 c.if-columns-eq0.false)
