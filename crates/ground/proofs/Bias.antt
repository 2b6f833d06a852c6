-- Signed numbers as natural ones: z stands as z + 2 ^ 40, so that omega, which reads ℕ alone, settles what is linear.
-- Each law asks that the numbers are below 2 ^ 38 in size, which every vector, range and place here is. Assumes nothing.
use mathlib.Core.Path.{◌≡◌, refl, sym, ap, ◌∙◌}
use mathlib.Core.Bool.{Bool, true, false, not, cond}
use Prim.Native.Nat.{ℕ, zero, suc, ◌+◌, ◌-◌, ◌*◌, ◌/◌, ◌^◌, ◌≤◌, ◌<◌, zero-le}
use native.Mathlib.Nat.{le-suc, le_of_suc-le-suc, lt_irrefl, lt_of_lt_of_le, lt_of_not-le, mul-le-mul_right}
use native.Mathlib.Omega.{arith}
use borrow.Author.Tests.{ltb-true, ltb-false, lt-ltb, le-ltb, le-leb, lt-leb, leb-true, leb-false}
use lib.Dec.{ltb, leb}
use lib.IntN.{ℤ, pos, negsuc, neg_ℤ, nat_abs, sub_ℕ, ◌+ℤ◌, ◌-ℤ◌, ◌*ℤ◌}
use lib.Signed.{mag, lt_z, le_z, non_neg, quot_z, shr_z}

abbrev pub bias : ℤ → ℕ
bias (pos n) = 2 ^ 40 + n
bias (negsuc n) = 2 ^ 40 - suc n

-- size, with −(n + 1) counted as n: a number of w bits is below half of 2 ^ w in it
pub mag-neg : (r : ℕ) {a : ℕ} → r ≤ suc a → mag (neg_ℤ (pos r)) ≤ a
mag-neg zero h = zero-le
mag-neg (suc r) h = le_of_suc-le-suc h

-- the numbers that the laws take
abbrev pub Small : ℤ → Type 0
Small z = mag z < 2 ^ 38

sub_by : (a b : ℕ) (t : Bool) → ltb a b ≡ t → b ≤ 2 ^ 38 → bias (cond t (negsuc (b - suc a)) (pos (a - b))) + b ≡ 2 ^ 40 + a
sub_by a b true e h = omega (arith, ltb-true a b e)
sub_by a b false e h = omega (arith, ltb-false a b e)

pub bias_sub : (a b : ℕ) → b ≤ 2 ^ 38 → bias (sub_ℕ a b) + b ≡ 2 ^ 40 + a
bias_sub a b h = sub_by a b (ltb a b) refl h

sub_size : (a b : ℕ) (t : Bool) → ltb a b ≡ t → mag (cond t (negsuc (b - suc a)) (pos (a - b))) ≤ a + b
sub_size a b true e = omega (arith, ltb-true a b e)
sub_size a b false e = omega (arith, ltb-false a b e)

-- a sum is no larger than its terms together
pub mag-add : (a b : ℤ) → mag (a +ℤ b) ≤ suc (mag a + mag b)
mag-add (pos a) (pos b) = omega arith
mag-add (pos a) (negsuc b) = omega (arith, sub_size a (suc b) (ltb a (suc b)) refl)
mag-add (negsuc a) (pos b) = omega (arith, sub_size b (suc a) (ltb b (suc a)) refl)
mag-add (negsuc a) (negsuc b) = omega arith

pub bias_add : (a b : ℤ) → Small a → Small b → bias (a +ℤ b) + 2 ^ 40 ≡ bias a + bias b
bias_add (pos a) (pos b) ha hb = omega arith
bias_add (pos a) (negsuc b) ha hb = omega (arith, bias_sub a (suc b) (omega arith))
bias_add (negsuc a) (pos b) ha hb = omega (arith, bias_sub b (suc a) (omega arith))
bias_add (negsuc a) (negsuc b) ha hb = omega arith

pub bias_negpos : (n : ℕ) → n ≤ 2 ^ 40 → bias (neg_ℤ (pos n)) + n ≡ 2 ^ 40
bias_negpos zero h = refl
bias_negpos (suc n) h = omega arith

pub bias_neg : (a : ℤ) → Small a → bias (neg_ℤ a) + bias a ≡ 2 ^ 41
bias_neg (pos n) h = omega (arith, bias_negpos n (omega arith))
bias_neg (negsuc n) h = omega arith

pub mag-negℤ : (b : ℤ) → mag (neg_ℤ b) ≤ suc (mag b)
mag-negℤ (pos zero) = omega arith
mag-negℤ (pos (suc n)) = omega arith
mag-negℤ (negsuc n) = omega arith

pub bias_minus : (a b : ℤ) → Small a → suc (mag b) < 2 ^ 38 → bias (a -ℤ b) + bias b ≡ bias a + 2 ^ 40
bias_minus a b ha hb = omega (arith, bias_add a (neg_ℤ b) ha (omega (arith, mag-negℤ b)), bias_neg b (omega arith))

-- a bound on the bias, on both sides of 2 ^ 40, is one on the size
pub small_by : (z : ℤ) (k : ℕ) → 2 ^ 40 ≤ bias z + k → bias z ≤ 2 ^ 40 + k → k < 2 ^ 40 → mag z ≤ k
small_by (pos n) k lo hi h = omega arith
small_by (negsuc n) k lo hi h = omega arith

-- a multiple is no larger than its size says
pub mag-mul : (a : ℤ) (k : ℕ) → mag (a *ℤ pos k) ≤ suc (mag a) * k
mag-mul (pos n) k = mul-le-mul_right k (le-suc n)
mag-mul (negsuc n) k = mag-neg (suc n * k) (le-suc (suc n * k))

pub bias_shr2 : (a : ℤ) → Small a → bias (shr_z a 2) ≡ 2 ^ 39 + bias a / 2
bias_shr2 (pos n) h = omega arith
bias_shr2 (negsuc n) h = omega arith

pub bias_shr4 : (a : ℤ) → Small a → bias (shr_z a 4) ≡ 3 * 2 ^ 38 + bias a / 4
bias_shr4 (pos n) h = omega arith
bias_shr4 (negsuc n) h = omega arith

-- division by 8 toward zero, on either side of 0
pub bias_quot_up : (a : ℤ) → 2 ^ 40 ≤ bias a → Small a → bias (quot_z a (pos 8)) ≡ 2 ^ 40 + (bias a - 2 ^ 40) / 8
bias_quot_up (pos n) h s = omega arith
bias_quot_up (negsuc n) h s = absurd (omega arith)

pub bias_quot_down : (a : ℤ) → bias a ≤ 2 ^ 40 → Small a → bias (quot_z a (pos 8)) ≡ 2 ^ 40 - (2 ^ 40 - bias a) / 8
bias_quot_down (pos n) h s = omega arith
bias_quot_down (negsuc n) h s = omega (arith, bias_negpos (suc n / 8) (omega arith))

-- the orders
leb-same : (a b c d : ℕ) → (a ≤ b → c ≤ d) → (c ≤ d → a ≤ b) → leb a b ≡ leb c d
leb-same a b c d f g = go (leb a b) refl
  where
    go : (t : Bool) → leb a b ≡ t → leb a b ≡ leb c d
    go true e = e ∙ sym (le-leb c d (f (leb-true a b e)))
    go false e = e ∙ sym (lt-leb c d (lt_of_not-le (λ h. lt_irrefl b (lt_of_lt_of_le (leb-false a b e) (g h)))))

pub le_z-bias : (a b : ℤ) → Small a → Small b → le_z a b ≡ leb (bias a) (bias b)
le_z-bias (pos a) (pos b) ha hb = leb-same a b (2 ^ 40 + a) (2 ^ 40 + b) (λ h. omega arith) (λ h. omega arith)
le_z-bias (pos a) (negsuc b) ha hb = sym (lt-leb (2 ^ 40 + a) (2 ^ 40 - suc b) (omega arith))
le_z-bias (negsuc a) (pos b) ha hb = sym (le-leb (2 ^ 40 - suc a) (2 ^ 40 + b) (omega arith))
le_z-bias (negsuc a) (negsuc b) ha hb = leb-same b a (2 ^ 40 - suc a) (2 ^ 40 - suc b) (λ h. omega arith) (λ h. omega arith)

pub lt_z-bias : (a b : ℤ) → Small a → Small b → lt_z a b ≡ ltb (bias a) (bias b)
lt_z-bias (pos a) (pos b) ha hb = leb-same (suc a) b (suc (2 ^ 40 + a)) (2 ^ 40 + b) (λ h. omega arith) (λ h. omega arith)
lt_z-bias (pos a) (negsuc b) ha hb = sym (le-ltb (2 ^ 40 + a) (2 ^ 40 - suc b) (omega arith))
lt_z-bias (negsuc a) (pos b) ha hb = sym (lt-ltb (2 ^ 40 - suc a) (2 ^ 40 + b) (omega arith))
lt_z-bias (negsuc a) (negsuc b) ha hb = leb-same (suc b) a (suc (2 ^ 40 - suc a)) (2 ^ 40 - suc b) (λ h. omega arith) (λ h. omega arith)

-- one order is the other's negation
leb-not : (a b : ℕ) (t : Bool) → ltb b a ≡ t → leb a b ≡ not t
leb-not a b true e = lt-leb a b (ltb-true b a e)
leb-not a b false e = le-leb a b (ltb-false b a e)

pub le_z-not_lt : (a b : ℤ) → le_z a b ≡ not (lt_z b a)
le_z-not_lt (pos a) (pos b) = leb-not a b (ltb b a) refl
le_z-not_lt (pos a) (negsuc b) = refl
le_z-not_lt (negsuc a) (pos b) = refl
le_z-not_lt (negsuc a) (negsuc b) = leb-not b a (ltb a b) refl

-- two numbers with one bias are one
pub bias_inj : (a b : ℤ) → Small a → Small b → bias a ≡ bias b → a ≡ b
bias_inj (pos a) (pos b) ha hb e = ap pos (omega arith)
bias_inj (pos a) (negsuc b) ha hb e = absurd (omega arith)
bias_inj (negsuc a) (pos b) ha hb e = absurd (omega arith)
bias_inj (negsuc a) (negsuc b) ha hb e = ap negsuc (omega arith)

-- no negative number, and its size
pub up-bias : (z : ℤ) → 2 ^ 40 ≤ bias z → (non_neg z ≡ true) × (nat_abs z + 2 ^ 40 ≡ bias z)
up-bias (pos n) h = (refl, omega arith)
up-bias (negsuc n) h = absurd (omega arith)
