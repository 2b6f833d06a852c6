-- Laws of refusals in the order of tests: a refused test gives its number, a passed one leaves the later ones. Assumes nothing.
use Rattle.std.proofs.Common.{◌≡◌, ℕ, ◌<◌, sym, ◌∙◌, arith}
use Rattle.refusal.specs.declared.kinds.Refusal.{Refusal}
use Rattle.refusal.specs.declared.kinds.Refusal.TheVariants.{Side, Level, Start, Plane, Grid, List, Order, Window, Vector, Mark, Length, Odd, Room, Shapes}
use Rattle.refusal.specs.Kinds.{number_of}
use Rattle.refusal.specs.Refusals.{◌then◌}
use Rattle.refusal.proofs.RefusalLaws.{then_first, then_later}

-- no refusal has the number 0
pub number-some : (r : Refusal) → 0 < number_of r
number-some r =
    elim r as (λ s. 0 < number_of s) [
      | Side ↦ omega arith
      | Level ↦ omega arith
      | Start ↦ omega arith
      | Plane ↦ omega arith
      | Grid ↦ omega arith
      | List ↦ omega arith
      | Order ↦ omega arith
      | Window ↦ omega arith
      | Vector ↦ omega arith
      | Mark ↦ omega arith
      | Length ↦ omega arith
      | Odd ↦ omega arith
      | Room ↦ omega arith
      | Shapes ↦ omega arith
    ]

-- `?` at a refusal, and past it
pub err-then : (r : Refusal) (n later : ℕ) → number_of r ≡ n → number_of r ≡ n then later
err-then r n later e = let some = number-some r in e ∙ sym (then_first n later (λ z. omega arith))

pub ok-then : (n later code : ℕ) → 0 ≡ n → code ≡ later → code ≡ n then later
ok-then n later code e f = f ∙ sym (then_later n later (sym e))
