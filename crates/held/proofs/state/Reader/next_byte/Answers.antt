-- `held::state::Reader::next_byte` meets its contract: a refusal stays, the header comes first, then the cells. Assumes nothing.
use mathlib.Core.Path.{◌≡◌, sym, ap, subst, ◌∙◌}
use mathlib.Core.List.{[], ◌∷◌}
use Prim.Native.Nat.{ℕ, ◌<◌}
use native.Mathlib.Omega.{arith}
use Rattle.gridfile.specs.Reading.{State, begun, next, taken}
use Rattle.gridfile.proofs.TakenLaws.{refused-stays}
use Rattle.gridfile.proofs.KeptLaws.{taken_free}
use Rattle.held.specs.declared.state.Reader.{Reader}
use Rattle.held.specs.Held.{reader_of, state_of, Settled}
use Rattle.held.proofs.OpenLaws.{number-stays, opened}
use Rattle.held.proofs.state.Reader.next_byte.Goals as goal

-- a refused reader
refused : (r : Reader) (room b : ℕ) → Settled r → (r.code ≡ 0 → ⊥) → r ≡ reader_of (next room (state_of r) b)
unfolding taken
refused r room b settled some =
    sym settled ∙ ap reader_of (sym (refused-stays room (state_of r) (λ e. some (sym (number-stays r some) ∙ e)) (b ∷ [])))

-- once the header has been read the room counts no more
free : (r : Reader) (room b : ℕ) → Settled r → r.code ≡ 0 → 0 < r.columns → reader_of (next 0 (state_of r) b) ≡ reader_of (next room (state_of r) b)
unfolding taken begun
free r room b settled none read =
    ap reader_of (taken_free 0 room (state_of r) (b ∷ []) (subst (λ (s : State). 0 < s.head.columns) (sym (opened r settled none).state) read))

pub returns-then-self-ne0 : goal.returns-then-self-ne0
returns-then-self-ne0 c =
    let a = c.args in
    refused a.self a.room a.byte c.requires c.if-self-ne0.true

pub returns : goal.returns
returns c =
    let a = c.args in
    c.cell_byte.ensures ∙ free a.self a.room a.byte c.requires c.if-self-ne0.false (omega (arith, c.if-self-eq0.false))
