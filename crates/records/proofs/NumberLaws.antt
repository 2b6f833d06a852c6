-- Laws of numbers as bytes: how long they are, how they are put one after another, and that each gives the other back.
-- Assumes nothing.
use mathlib.Core.Path.{◌≡◌, refl, sym, ap, ap₂, ◌∙◌}
use mathlib.Core.List.{List, [], ◌∷◌, ◌++◌}
use Prim.Native.Nat.{ℕ, zero, suc, ◌+◌, ◌-◌, ◌*◌, ◌/◌, ◌^◌, ◌≤◌, ◌<◌}
use native.Mathlib.Nat.{add_assoc, pow-suc, div-div-eq-div-mul}
use native.Mathlib.Numerals.{add-one, add-two}
use native.Mathlib.Omega.{arith}
use lib.ListN.{length, get_or, take, drop, take-append-drop}
use lib.Seq.{sets, slice, slice_empty, slice-cons, length-slice, get_or-drop}
use mir.Syntax.{w64}
use borrow.Rule.Slice.PartMut.{put_mid}
use Rattle.std.specs.Int.{to_le_bytes}
use Rattle.std.proofs.Common.{append_assoc, drop-drop}
use Rattle.std.proofs.lemmas.List.Edits.{sets-eq}
use Rattle.ground.proofs.ListLaws.{sets_append}
use Rattle.records.specs.Numbers.{OfBytes, bytes_of, number_of}

pub length-bytes : (count n : ℕ) → length (bytes_of count n) ≡ count
unfolding bytes_of
length-bytes zero n = refl
length-bytes (suc count) n = ap suc (length-bytes count _)

-- bytes put behind others are put with them
pub puts_on : (l : List ℕ) (i : ℕ) (xs ys : List ℕ) {m n : List ℕ} {k : ℕ} → m ≡ sets l i xs → n ≡ sets m k ys → i + length xs ≡ k → n ≡ sets l i (xs ++ ys)
puts_on l i xs ys e f at = f ∙ ap₂ (λ (m : List ℕ) (k : ℕ). sets m k ys) e (sym at) ∙ sym (sets_append l i xs ys)

-- and so are those that a part of the list is given
pub puts_part : (l : List ℕ) (i k : ℕ) (ys : List ℕ) {xs : List ℕ} → xs ≡ ys → length ys ≡ k → i + k ≤ length l → put_mid i k l xs ≡ sets l i ys
puts_part l i k ys same e h =
    let inside : i + length ys ≤ length l = omega arith in
    rw (sets-eq, append_assoc, drop-drop, e, same)

-- a machine's eight bytes are these
pub le-bytes : (n : ℕ) → to_le_bytes w64 n ≡ bytes_of 8 n
unfolding bytes_of
le-bytes n = simp div-div-eq-div-mul

-- a 16-bit number's bytes are put in front of another's
pub bytes-behind : (count n m : ℕ) → n < 2 ^ 16 → bytes_of (suc (suc count)) (n + 65536 * m) ≡ bytes_of 2 n ++ bytes_of count m
unfolding bytes_of
bytes-behind count n m h =
    ap₂ ◌∷◌ (omega arith) (ap₂ ◌∷◌ (omega arith) (ap (bytes_of count) (omega arith)))

-- the number in bytes, two bytes at a time
module _ (l : List ℕ) (at : ℕ) where
  front-two : (end : ℕ) → at + 2 ≤ end → end ≤ length l → number_of (slice at end l) ≡ get_or l at 0 + 256 * get_or l (at + 1) 0 + 65536 * number_of (slice (at + 2) end l)
  unfolding number_of
  front-two end h k =
      rw (slice-cons at end l 0 (omega arith) k, slice-cons (suc at) end l 0 (omega arith) k, add-one, add-two) (omega arith)

  pub two_bytes : at + 2 ≤ length l → number_of (slice at (at + 2) l) ≡ get_or l at 0 + 256 * get_or l (at + 1) 0
  unfolding number_of
  two_bytes h = omega (arith, front-two (at + 2) (omega arith) h, ap number_of (slice_empty (at + 2) l))

  pub four_bytes : at + 4 ≤ length l → number_of (slice at (at + 4) l) ≡ number_of (slice at (at + 2) l) + 65536 * number_of (slice (at + 2) (at + 2 + 2) l)
  four_bytes h = rw (add_assoc at 2 2) (omega (arith, front-two (at + 4) (omega arith) h, two_bytes (omega arith)))

-- a number's bytes give it back
pub number-bytes : (count n : ℕ) → n < 256 ^ count → number_of (bytes_of count n) ≡ n
unfolding number_of bytes_of
number-bytes zero n h = omega arith
number-bytes (suc count) n h = omega (arith, number-bytes count (n / 256) (omega (arith, pow-suc 256 count)))

pub number-below : (bs : List ℕ) → OfBytes bs → number_of bs < 256 ^ length bs
unfolding number_of
number-below [] h = omega arith
number-below (b ∷ bs) h = omega (arith, h 0, number-below bs (λ k. h (suc k)), pow-suc 256 (length bs))

-- and a number gives its bytes back
pub bytes-number : (bs : List ℕ) → OfBytes bs → bytes_of (length bs) (number_of bs) ≡ bs
unfolding number_of bytes_of
bytes-number [] h = refl
bytes-number (b ∷ bs) h =
    ap₂ ◌∷◌ (omega (arith, h 0))
    (ap (bytes_of (length bs)) (omega (arith, h 0)) ∙ bytes-number bs (λ k. h (suc k)))

-- bytes of a part of a list of bytes
pub bytes-front : (xs ys : List ℕ) → OfBytes (xs ++ ys) → OfBytes xs
bytes-front [] ys h k = omega arith
bytes-front (x ∷ xs) ys h zero = h 0
bytes-front (x ∷ xs) ys h (suc k) = bytes-front xs ys (λ j. h (suc j)) k

pub bytes_back : (xs ys : List ℕ) → OfBytes (xs ++ ys) → OfBytes ys
bytes_back [] ys h = h
bytes_back (x ∷ xs) ys h = bytes_back xs ys (λ k. h (suc k))

module _ (bs : List ℕ) (h : OfBytes bs) (f t : ℕ) (inside : t ≤ length bs) where
  part_bytes : OfBytes (slice f t bs)
  part_bytes k =
      let front = bytes-front (take t bs) (drop t bs) (rw take-append-drop h) in
      rw get_or-drop (front (f + k))

  pub part-below : number_of (slice f t bs) < 256 ^ (t - f)
  part-below = rw (length-slice f t bs inside) at (number-below (slice f t bs) part_bytes)

  pub part-again : bytes_of (t - f) (number_of (slice f t bs)) ≡ slice f t bs
  part-again = rw (length-slice f t bs inside) at (bytes-number (slice f t bs) part_bytes)
