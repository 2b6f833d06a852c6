-- Numbers as text, in ASCII.
use Rattle.std.specs.Prelude.{ℕ, zero, suc, ◌+◌, ◌/◌, ◌%◌, cond, List, [], ◌∷◌, ◌++◌, ℤ, pos, nat_abs}
use Prim.Native.Char.{code}
use Rattle.std.specs.Int.Signed.{lt_z}

-- the character of a number below 10
abbrev pub digit : ℕ → ℕ
digit n = code "0" + n

-- the digits of a number, none for 0: the last behind those of its tenth; the first argument bounds how many are spelled
unfoldable pub digits_in : ℕ → ℕ → List ℕ
digits_in zero n = []
digits_in (suc k) zero = []
digits_in (suc k) (suc n) = digits_in k (suc n / 10) ++ digit (suc n % 10) ∷ []

-- a number's digits: no zeros in front, and one for 0
unfoldable pub decimal : ℕ → List ℕ
decimal n = digits_in n (n / 10) ++ digit (n % 10) ∷ []

-- a minus in front of the digits of a negative number
unfoldable pub signed : ℤ → List ℕ
signed z = cond (lt_z z (pos 0)) (code "-" ∷ []) [] ++ decimal (nat_abs z)
