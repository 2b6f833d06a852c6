-- A number's digits: the last one behind the others, and how many there are. Assumes nothing.
use borrow.Author.Tests.{ltb-true, ltb-false}
use mathlib.Core.Path.{◌≡◌, refl, sym, ap}
use mathlib.Core.Bool.{true, false}
use mathlib.Core.Logic.{⊎_elim}
use mathlib.Core.List.{List, [], ◌∷◌, ◌++◌}
use Prim.Native.Nat.{ℕ, zero, suc, ◌+◌, ◌/◌, ◌%◌, ◌^◌, ◌≤◌, ◌<◌}
use Prim.Native.Char.{code}
use native.Mathlib.Nat.{pow-suc}
use native.Mathlib.Omega.{arith}
use lib.Dec.{ltb}
use lib.IntN.{ℤ, pos, nat_abs}
use lib.Signed.{lt_z, nat_abs-le}
use lib.ListN.{length, length-append}
use mir.Syntax.{w16}
use mir.Val.{SFits}
use Rattle.ground.proofs.TestLaws.{tested}
use Rattle.text.specs.Decimal.{digit, digits_in, decimal, signed}

none : (k : ℕ) → digits_in k 0 ≡ []
unfolding digits_in
none zero = refl
none (suc k) = refl

-- any bound as large as the number will do
enough : (k m n : ℕ) → n ≤ k → n ≤ m → digits_in k n ≡ digits_in m n
unfolding digits_in
enough zero m zero h g = sym (none m)
enough zero m (suc n) h g = absurd (omega arith)
enough (suc k) m zero h g = sym (none m)
enough (suc k) zero (suc n) h g = absurd (omega arith)
enough (suc k) (suc m) (suc n) h g = rw (enough k m (suc n / 10) (omega arith) (omega arith))

whole : (k n : ℕ) → 0 < n → n ≤ k → digits_in k n ≡ decimal n
unfolding decimal digits_in
whole k zero p h = absurd (omega arith)
whole zero (suc n) p h = absurd (omega arith)
whole (suc k) (suc n) p h = rw (enough k (suc n) (suc n / 10) (omega arith) (omega arith))

-- the digits in front of the last: none, or those of the tenth
pub front_none : (n : ℕ) → n < 10 → digits_in n (n / 10) ≡ []
front_none n h =
    let tenth : n / 10 ≡ 0 = omega arith in
    rw tenth (none n)

pub front_tenth : (n : ℕ) → 10 ≤ n → digits_in n (n / 10) ≡ decimal (n / 10)
front_tenth n h = whole n (n / 10) (omega arith) (omega arith)

pub one-digit : (n : ℕ) → n < 10 → decimal n ≡ digit n ∷ []
unfolding decimal
one-digit n h =
    let last : n % 10 ≡ n = omega arith in
    rw (front_none n h, last)

pub more_digits : (n : ℕ) → 10 ≤ n → decimal n ≡ decimal (n / 10) ++ digit (n % 10) ∷ []
unfolding decimal
more_digits n h = ap (λ (l : List ℕ). l ++ digit (n % 10) ∷ []) (front_tenth n h)

pub length_more : (n : ℕ) → 10 ≤ n → length (decimal n) ≡ length (decimal (n / 10)) + 1
length_more n h = rw (more_digits n h, length-append)

-- every number has a digit, and one below a power of ten has as many as the power has zeros, at most
pub decimal-least : (n : ℕ) → 0 < length (decimal n)
decimal-least n =
    ⊎_elim (λ e. rw (one-digit n (ltb-true n 10 e)) (omega arith))
    (λ e. omega (arith, length_more n (ltb-false n 10 e))) (tested (ltb n 10))

pub decimal-most : (k n : ℕ) → n < 10 ^ suc k → length (decimal n) ≤ suc k
decimal-most zero n h = rw (one-digit n h) (omega arith)
decimal-most (suc k) n h =
    ⊎_elim (λ e. rw (one-digit n (ltb-true n 10 e)) (omega arith))
    (λ e. omega (arith, length_more n (ltb-false n 10 e), decimal-most k (n / 10) (omega (arith, pow-suc 10 (suc k))))) (tested (ltb n 10))

-- a negative number has a minus, and no other has one
pub minus : (z : ℤ) → lt_z z (pos 0) ≡ true → signed z ≡ code "-" ∷ decimal (nat_abs z)
unfolding signed
minus z h = rw h

pub no_minus : (z : ℤ) → lt_z z (pos 0) ≡ false → signed z ≡ decimal (nat_abs z)
unfolding signed
no_minus z h = rw h

pub signed-most : (z : ℤ) → SFits w16 z → length (signed z) ≤ 6
signed-most z f =
    let digits = decimal-most 4 (nat_abs z) (omega (arith, nat_abs-le z f.sfits)) in
    ⊎_elim (λ e. rw (minus z e) (omega arith)) (λ e. rw (no_minus z e) (omega arith)) (tested (lt_z z (pos 0)))
