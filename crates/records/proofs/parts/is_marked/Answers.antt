-- `records::parts::is_marked` meets its contract: two bytes are those of the mark where the number that they are is the mark's.
use borrow.Author.Tests.{eq-eqb, eqb-true}
use Rattle.std.proofs.Common.{◌≡◌, ℕ, ◌+◌, ◌*◌, ◌<◌, ◌&&◌, ap₂, eqb, arith}
use Rattle.ground.proofs.TestLaws.{both, same}
use Rattle.records.proofs.parts.is_marked.Goals as goal

two_tests : (a b n m : ℕ) → a < 256 → b < 256 → n ≡ a + b * 256 → m ≡ 0x474C → eqb n m ≡ eqb a 0x4C && eqb b 0x47
two_tests a b n m low high e f =
    same (eqb n m) (eqb a 0x4C && eqb b 0x47)
    (λ t. let h : n ≡ m = eqb-true n m t in ap₂ ◌&&◌ (eq-eqb a 0x4C (omega arith)) (eq-eqb b 0x47 (omega arith)))
    (λ t. let halves = both (eqb a 0x4C) (eqb b 0x47) t in eq-eqb n m (omega (arith, eqb-true a 0x4C halves.0, eqb-true b 0x47 halves.1)))

pub returns : goal.returns
returns c =
    let byte = c.type_inv.file in
    two_tests _ _ _ _ (omega (arith, byte c.args.at)) (omega (arith, byte (c.args.at + 1))) c.from_le_bytes.ensures c.from_le_bytes-2.ensures
