-- An answer is the first refusal, and what was found where there is none. Assumes nothing.
use mathlib.Core.Path.{◌≡◌, sym, ap, ◌∙◌}
use Prim.Native.Nat.{ℕ}
use native.Mathlib.Omega.{arith}
use borrow.Author.Tests.{ne_eqb}
use Rattle.refusal.specs.declared.kinds.Refusal.{Refusal}
use Rattle.refusal.specs.Kinds.{number_of}
use Rattle.refusal.proofs.KindsLaws.{number-some}
use Rattle.predict.specs.declared.predictors.MotionEstimationSubsets.{MotionEstimationSubsets}
use Rattle.single.specs.declared.found.Found.{Found}
use Rattle.single.specs.Found.{refused, answer}
use Rattle.single.specs.Predicting.{refused_predictors, predictors_with}

pub refuses : (n : ℕ) (f : Found) → (n ≡ 0 → ⊥) → answer n f ≡ refused n
unfolding answer
refuses n f h = rw (ne_eqb n 0 h)

-- a result as C gets it, by the number that its refusal has
pub refused-is : (r : Refusal) (n : ℕ) (f : Found) → number_of r ≡ n → refused (number_of r) ≡ answer n f
refused-is r n f e = let some = number-some r in ap refused e ∙ sym (refuses n f (λ z. omega arith))

pub done-is : (n : ℕ) (f : Found) → 0 ≡ n → f ≡ answer n f
unfolding answer
done-is n f e = rw (← e)

-- the record of predictors of a number that is not 0
pub predictors-refused : {code : ℕ} (number : ℕ) (p : MotionEstimationSubsets) → code ≡ number → (code ≡ 0 → ⊥) → refused_predictors code ≡ predictors_with number p
unfolding predictors_with
predictors-refused number p e h = ap refused_predictors e ∙ rw (ne_eqb number 0 (λ z. h (e ∙ z)))
