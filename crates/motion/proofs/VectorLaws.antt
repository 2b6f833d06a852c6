-- Laws of vectors. Assumes nothing.
use mathlib.Core.Path.{◌≡◌}
use Prim.Native.Nat.{ℕ, suc, ◌*◌, ◌≤◌, suc-le-suc}
use native.Mathlib.Nat.{le_trans, mul-le-mul_right}
use native.Mathlib.Omega.{arith}
use lib.IntN.{ℤ, pos, negsuc, nat_abs}
use lib.Signed.{mag}
use mir.Syntax.{w16}
use mir.Val.{SFits, to_z, of_z}
use mir.ValLaws.{to_z-of_z}
use Rattle.ground.proofs.Bias.{mag-add, mag-mul}
use Rattle.motion.specs.declared.vector.MotionVector.{MotionVector}
use Rattle.motion.specs.Vector.{FitsV, plus_v, times_v}
use Rattle.motion.specs.Asked.{Near}

-- a vector of two numbers
abbrev pub vector : ℤ → ℤ → MotionVector
vector r c = record { row = r; col = c }

-- a vector made of two parameters, whose bits the machine holds
pub vector_back : {r c : ℤ} → SFits w16 r → SFits w16 c → vector (to_z w16 (of_z w16 r)) (to_z w16 (of_z w16 c)) ≡ vector r c
vector_back {r} {c} fr fc = λ i. vector (to_z-of_z w16 r fr i) (to_z-of_z w16 c fc i)

-- offsets of at most 1,024, which every pattern's are
pub record Short (v : MotionVector) : Type 0 where
  pub row : mag v.row ≤ 1024
  pub col : mag v.col ≤ 1024

mag-nat_abs : (z : ℤ) → mag z ≤ nat_abs z
mag-nat_abs (pos n) = omega arith
mag-nat_abs (negsuc n) = omega arith

-- no sum of a vector inside the limit and a short offset overflows 16 bits
pub plus_fits : (v o : MotionVector) → Near v → Short o → FitsV (plus_v v o)
unfolding plus_v
plus_fits v o n s =
    record {
      row = record { sfits = omega (arith, mag-add v.row o.row, mag-nat_abs v.row, n.row, s.row) };
      col = record { sfits = omega (arith, mag-add v.col o.col, mag-nat_abs v.col, n.col, s.col) };
    }

short_fits : (z : ℤ) → mag z ≤ 1024 → SFits w16 z
short_fits z h = record { sfits = omega arith }

pub short_fits_v : (v : MotionVector) → Short v → FitsV v
short_fits_v v s = record { row = short_fits v.row s.row; col = short_fits v.col s.col }

-- a multiple of an offset of at most m
pub times-short : (v : MotionVector) (m k : ℕ) → mag v.row ≤ m → mag v.col ≤ m → suc m * k ≤ 1024 → Short (times_v v (pos k))
unfolding times_v
times-short v m k hr hc h =
    record {
      row = le_trans (le_trans (mag-mul v.row k) (mul-le-mul_right k (suc-le-suc hr))) h;
      col = le_trans (le_trans (mag-mul v.col k) (mul-le-mul_right k (suc-le-suc hc))) h;
    }
