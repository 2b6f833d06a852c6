-- `sad::plane::place` meets its contract: every sum on the way is far inside 64 bits.
use mathlib.Core.Path.{◌≡◌, sym, ap, ap₂, subst, ◌∙◌}
use Prim.Native.Nat.{ℕ, ◌≤◌}
use native.Mathlib.Omega.{arith}
use lib.Dec.{T}
use lib.IntN.{ℤ, pos, nat_abs, ◌+ℤ◌}
use lib.Signed.{quot_z, non_neg, nat_abs-le}
use mir.Syntax.{w16, w64}
use mir.Val.{SFits, Fits, to_z, of_z}
use mir.ValLaws.{to_z-of_z, to_z_pos}
use Rattle.ground.proofs.Words.{quot_fits, quot_word}
use Rattle.sad.specs.Plane.{moved}
use Rattle.sad.specs.Asked.{largest_place}
use Rattle.sad.proofs.Places.{moved-size, place-size}
use Rattle.sad.proofs.plane.place.Goals as goal

module _ (po pad : ℕ) (z : ℤ) (f : SFits w16 z) (hpo : po ≤ largest_place) (hpad : pad ≤ largest_place) where
  cut_fits : SFits w64 (quot_z z (pos 8))
  cut_fits = record { sfits = omega (arith, (quot_fits f 8).sfits) }

  cut : to_z w64 (of_z w64 (to_z w16 (of_z w16 (quot_z (to_z w16 (of_z w16 z)) (pos 8))))) ≡ quot_z z (pos 8)
  cut = ap (λ (y : ℤ). to_z w64 (of_z w64 y)) (quot_word f 8) ∙ to_z-of_z w64 (quot_z z (pos 8)) cut_fits

  first : to_z w64 po +ℤ to_z w64 (of_z w64 (to_z w16 (of_z w16 (quot_z (to_z w16 (of_z w16 z)) (pos 8))))) ≡ moved po z
  unfolding moved
  first = ap₂ ◌+ℤ◌ (to_z_pos w64 po (omega arith)) cut

  moved-fits : SFits w64 (moved po z)
  moved-fits = record { sfits = omega (arith, moved-size po f hpo) }

  second : to_z w64 (of_z w64 (to_z w64 po +ℤ to_z w64 (of_z w64 (to_z w16 (of_z w16 (quot_z (to_z w16 (of_z w16 z)) (pos 8))))))) +ℤ to_z w64 pad ≡ moved po z +ℤ pos pad
  second = ap₂ ◌+ℤ◌ (ap (λ (y : ℤ). to_z w64 (of_z w64 y)) first ∙ to_z-of_z w64 (moved po z) moved-fits) (to_z_pos w64 pad (omega arith))

  whole-fits : SFits w64 (moved po z +ℤ pos pad)
  whole-fits = record { sfits = omega (arith, place-size po f hpo pad hpad) }

  whole : to_z w64 (of_z w64 (to_z w64 (of_z w64 (to_z w64 po +ℤ to_z w64 (of_z w64 (to_z w16 (of_z w16 (quot_z (to_z w16 (of_z w16 z)) (pos 8))))))) +ℤ to_z w64 pad)) ≡ moved po z +ℤ pos pad
  whole = ap (λ (y : ℤ). to_z w64 (of_z w64 y)) second ∙ to_z-of_z w64 (moved po z +ℤ pos pad) whole-fits

pub overflow_cast-result-4 : goal.overflow_cast-result-4
overflow_cast-result-4 c =
    let z = moved c.args.po c.args.component +ℤ pos c.args.pad in
    let fits : Fits w64 (nat_abs z) = record { fits = omega (arith, nat_abs-le z (whole-fits c.args.po c.args.pad c.args.component c.ranges.component c.requires.0 c.requires.1).sfits) } in
    subst (λ (y : ℤ). T (non_neg y) × Fits w64 (nat_abs y)) (sym (whole c.args.po c.args.pad c.args.component c.ranges.component c.requires.0 c.requires.1)) (subst T (sym c.requires.2) tt, fits)

pub returns : goal.returns
returns c = ap nat_abs (whole c.args.po c.args.pad c.args.component c.ranges.component c.requires.0 c.requires.1)
