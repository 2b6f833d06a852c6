-- A file that a comparison was not refused for was accepted.
use Rattle.std.proofs.Common.{◌≡◌, ℕ, Result, Ok, Err, refl}
use Rattle.std.specs.Result.{IsOk}
use Rattle.refusal.specs.declared.kinds.Refusal.{Refusal}
use Rattle.refusal.proofs.RefusalLaws.{none_of}
use Rattle.gridfile.specs.declared.extent.Extent.{Extent}
use Rattle.gridfile.specs.declared.read.Shape.{Shape}
use Rattle.gridfile.specs.Reading.{shape_for}
use Rattle.gridfile.proofs.RefusedLaws.{numbered}
use Rattle.compare.specs.Answer.{compare_refusal}

unrefused : (e : Result Extent Refusal) → (shape_for e).code ≡ 0 → IsOk e
unrefused (Ok extent) z = refl
unrefused (Err refusal) z = absurd (numbered refusal z)

pub accepted : (e : Result Extent Refusal) (second : Shape) (n m : ℕ) → compare_refusal (shape_for e) n second m ≡ 0 → IsOk e
unfolding compare_refusal
accepted e second n m z = unrefused e (none_of (shape_for e).code _ z).0
