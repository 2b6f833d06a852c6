-- Numbers that are spelled. Assumes nothing.
use mathlib.Core.Path.{◌≡◌, refl}
use lib.IntN.{pos, neg_ℤ}
use Rattle.text.specs.Ascii.{ascii}
use Rattle.text.specs.Decimal.{digits_in, decimal, signed}

pub none : decimal 0 ≡ ascii "0"
unfolding ascii decimal digits_in
none = refl

pub ten : decimal 10 ≡ ascii "10"
unfolding ascii decimal digits_in
ten = refl

pub largest : decimal 18446744073709551615 ≡ ascii "18446744073709551615"
unfolding ascii decimal digits_in
largest = refl

pub least : signed (neg_ℤ (pos 32768)) ≡ ascii "-32768"
unfolding ascii decimal digits_in signed
least = refl
