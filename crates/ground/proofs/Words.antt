-- What a signed operation of the machine needs and gives, said of the numbers: results fit, and bits read back as the number.
-- Assumes nothing.
use mathlib.Core.Path.{◌≡◌, refl, sym, ap, ◌∙◌}
use Prim.Native.Nat.{ℕ, zero, suc, ◌+◌, ◌-◌, ◌*◌, ◌/◌, ◌%◌, ◌^◌, ◌≤◌, ◌<◌}
use native.Mathlib.Nat.{div-le_self, add-mul, mul-pos, zero-lt-suc, mul-add-mod_self_right, mod-eq_of_lt}
use native.Mathlib.Omega.{arith}
use lib.Pow.{pow_pos}
use lib.IntN.{ℤ, pos, negsuc, neg_ℤ, ◌*ℤ◌}
use lib.Signed.{mag, quot_z, shr_z, mag_shr}
use mir.Syntax.{Width, w16}
use mir.Val.{SFits, hbits, to_z, of_z}
use Rattle.ground.proofs.Bias.{bias, bias_negpos, mag-neg}
use mir.ValLaws.{to_z-of_z, to_z_pos, to_z-neg, sfits_le}

pub mag-quot : (z : ℤ) (k : ℕ) → mag (quot_z z (pos k)) ≤ mag z
mag-quot (pos n) k = div-le_self n k
mag-quot (negsuc n) k = mag-neg (suc n / k) (div-le_self (suc n) k)

-- a result that a call hands back in bits is the number
pub back : (w : Width) (z : ℤ) → mag z < 2 ^ hbits w → to_z w (of_z w z) ≡ z
back w z h = to_z-of_z w z (record { sfits = h })

module _ {w : Width} {z : ℤ} (f : SFits w z) where
  -- a quotient by a positive number fits where the dividend does
  pub quot_fits : (k : ℕ) → SFits w (quot_z z (pos k))
  quot_fits k = sfits_le (mag-quot z k) f

  pub quot_word : (k : ℕ) → to_z w (of_z w (quot_z (to_z w (of_z w z)) (pos k))) ≡ quot_z z (pos k)
  quot_word k = ap (λ (y : ℤ). to_z w (of_z w (quot_z y (pos k)))) (to_z-of_z w z f) ∙ to_z-of_z w (quot_z z (pos k)) (quot_fits k)

  -- and so does a shift right
  pub shr_fits : (m : ℕ) → SFits w (shr_z z m)
  shr_fits m = sfits_le (mag_shr z m) f

-- the quotient of a 16-bit number by 8
pub eighth_bounds : (z : ℤ) → SFits w16 z → (2 ^ 40 ≤ bias (quot_z z (pos 8)) + 4096) × (bias (quot_z z (pos 8)) ≤ 2 ^ 40 + 4095)
eighth_bounds (pos n) f = omega (arith, f.sfits)
eighth_bounds (negsuc n) f = omega (arith, f.sfits, bias_negpos (suc n / 8) (omega (arith, f.sfits)))

-- a component cut to whole pixels is no larger
cut-neg : (r n : ℕ) → r * 8 ≤ suc n → mag (neg_ℤ (pos r) *ℤ pos 8) ≤ n
cut-neg zero n h = omega arith
cut-neg (suc r) n h = mag-neg (suc r * 8) h

pub mag-cut : (z : ℤ) → mag (quot_z z (pos 8) *ℤ pos 8) ≤ mag z
mag-cut (pos n) = omega arith
mag-cut (negsuc n) = cut-neg (suc n / 8) n (omega arith)

-- a shift left by k = 2 ^ s, of the bits, is the multiple where that fits
shl_neg : (n k x : ℕ) → suc n * suc k ≡ x → n < 2 ^ 15 → mag (neg_ℤ (pos x)) < 2 ^ 15 → to_z w16 (((2 ^ 16 - suc n) * suc k) % 2 ^ 16) ≡ neg_ℤ (pos x)
shl_neg n k zero e f h = absurd (omega (arith, mul-pos {m = suc n} {n = suc k} (zero-lt-suc n) (zero-lt-suc k)))
shl_neg n k (suc m) e f h = ap (to_z w16) same ∙ to_z-neg w16 m h
  where
    whole : (2 ^ 16 - suc n) * suc k + suc n * suc k ≡ 2 ^ 16 * suc k
    whole = sym (add-mul (2 ^ 16 - suc n) (suc n) (suc k)) ∙ ap (λ (t : ℕ). t * suc k) (omega arith)

    split : (2 ^ 16 - suc n) * suc k ≡ k * 2 ^ 16 + (2 ^ 16 - suc m)
    split = omega (arith, whole, e)

    same : ((2 ^ 16 - suc n) * suc k) % 2 ^ 16 ≡ 2 ^ 16 - suc m
    same = ap (λ (t : ℕ). t % 2 ^ 16) split ∙ mul-add-mod_self_right k (2 ^ 16) (2 ^ 16 - suc m) ∙ mod-eq_of_lt {m = 2 ^ 16} (omega arith)

shl_by : (z : ℤ) (k : ℕ) → SFits w16 z → SFits w16 (z *ℤ pos (suc k)) → to_z w16 ((of_z w16 z * suc k) % 2 ^ 16) ≡ z *ℤ pos (suc k)
shl_by (pos n) k f g =
    let small : n * suc k < 2 ^ 16 = omega (arith, g.sfits) in
    ap (to_z w16) (mod-eq_of_lt small) ∙ to_z_pos w16 (n * suc k) g.sfits
shl_by (negsuc n) k f g = shl_neg n k (suc n * suc k) refl f.sfits g.sfits

pub shl_word : (z : ℤ) (s : ℕ) → SFits w16 z → SFits w16 (z *ℤ pos (2 ^ s)) → to_z w16 ((of_z w16 z * 2 ^ s) % 2 ^ 16) ≡ z *ℤ pos (2 ^ s)
shl_word z s f g = go (2 ^ s) (pow_pos s) g
  where
    go : (k : ℕ) → 0 < k → SFits w16 (z *ℤ pos k) → to_z w16 ((of_z w16 z * k) % 2 ^ 16) ≡ z *ℤ pos k
    go zero p g = absurd (omega arith)
    go (suc k) p g = shl_by z k f g
