-- Laws of places in a plane: as natural numbers, and how large they are. Assumes nothing.
use mathlib.Core.Path.{◌≡◌, sym, ap₂, subst}
use mathlib.Core.Bool.{true}
use Prim.Native.Nat.{ℕ, ◌+◌, ◌*◌, ◌≤◌, ◌^◌}
use native.Mathlib.Nat.{mul-le-mul}
use native.Mathlib.Omega.{arith}
use lib.Dec.{T}
use lib.IntN.{ℤ, pos, nat_abs, ◌+ℤ◌, ◌*ℤ◌}
use lib.Signed.{mag, quot_z, non_neg, pos-nat_abs, nat_abs-le}
use mir.Syntax.{w16}
use mir.Val.{SFits}
use Rattle.ground.proofs.Bias.{mag-add}
use Rattle.ground.proofs.Words.{quot_fits}
use Rattle.sad.specs.Plane.{moved, sample_at}
use Rattle.sad.specs.Asked.{largest_place}

-- with no negative coordinate, all is in natural numbers
pub sample_is : (stride pad : ℕ) (x y : ℤ) → non_neg (x +ℤ pos pad) ≡ true → non_neg (y +ℤ pos pad) ≡ true → sample_at stride pad x y ≡ nat_abs (y +ℤ pos pad) * stride + nat_abs (x +ℤ pos pad)
unfolding sample_at
sample_is stride pad x y hx hy =
    let back : (z : ℤ) → non_neg z ≡ true → z ≡ pos (nat_abs z) = λ z h. sym (pos-nat_abs z (subst T (sym h) tt)) in
    ap₂ (λ (v u : ℤ). nat_abs (v *ℤ pos stride +ℤ u)) (back (y +ℤ pos pad) hy) (back (x +ℤ pos pad) hx)

module _ (po : ℕ) {z : ℤ} (f : SFits w16 z) (hpo : po ≤ largest_place) where
  pub moved-size : mag (moved po z) ≤ 2 ^ 17
  unfolding moved
  moved-size = omega (arith, mag-add (pos po) (quot_z z (pos 8)), (quot_fits f 8).sfits)

  pub place-size : (pad : ℕ) → pad ≤ largest_place → mag (moved po z +ℤ pos pad) ≤ 2 ^ 18
  place-size pad h = omega (arith, mag-add (moved po z) (pos pad), moved-size)

  pub place-le : (pad : ℕ) → pad ≤ largest_place → nat_abs (moved po z +ℤ pos pad) ≤ 2 ^ 19
  place-le pad h = nat_abs-le (moved po z +ℤ pos pad) (omega (arith, place-size pad h))

-- a place times a stride is far inside 64 bits
pub scaled : (y stride : ℕ) → y ≤ 2 ^ 20 → stride ≤ largest_place → y * stride ≤ 2 ^ 36
scaled y stride hy hs = mul-le-mul {m₂ = largest_place} hy hs
