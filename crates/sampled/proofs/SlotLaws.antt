-- Laws of five slots: the next one filled, all of them counted, the filled ones taken, and any of them read. Assumes nothing.
use mathlib.Core.Path.{◌≡◌, refl, sym, ap, ◌∙◌}
use mathlib.Core.List.{List, [], ◌∷◌, ◌++◌, append_assoc}
use Prim.Native.Nat.{ℕ, zero, suc, ◌-◌, ◌≤◌, ◌<◌}
use native.Mathlib.Omega.{arith}
use lib.ListN.{length, take, get_or, set, replicate, length-append, length-replicate}
use lib.Seq.{take-append_seam, set-append_seam}
use Rattle.sampled.specs.Slots.{slots, slotted}

padded : {A : Type 0} (z : A) (xs : List A) (n k : ℕ) → get_or (xs ++ replicate n z) k z ≡ get_or xs k z
padded z [] zero k = refl
padded z [] (suc n) zero = refl
padded z [] (suc n) (suc k) = padded z [] n k
padded z (x ∷ xs) n zero = refl
padded z (x ∷ xs) n (suc k) = padded z xs n k

module _ {A : Type 0} (z : A) (xs : List A) where
  pub slots-all : length xs ≤ slots → length (slotted z xs) ≡ slots
  unfolding slotted
  slots-all h = simp (length-append, length-replicate) (omega arith)

  -- one more in the next slot
  pub slots_next : (v : A) → length xs < slots → set (slotted z xs) (length xs) v ≡ slotted z (xs ++ (v ∷ []))
  unfolding slotted
  slots_next v h =
      let left : slots - length xs ≡ suc (slots - length (xs ++ (v ∷ []))) = simp length-append (omega arith) in
      ap (λ (n : ℕ). set (xs ++ replicate n z) (length xs) v) left
      ∙ set-append_seam xs z (replicate (slots - length (xs ++ (v ∷ []))) z) v
      ∙ sym (append_assoc xs (v ∷ []) (replicate (slots - length (xs ++ (v ∷ []))) z))

  -- a zero more changes no slot
  pub slots-zero : length xs < slots → slotted z (xs ++ (z ∷ [])) ≡ slotted z xs
  unfolding slotted
  slots-zero h =
      let left : slots - length xs ≡ suc (slots - length (xs ++ (z ∷ []))) = simp length-append (omega arith) in
      append_assoc xs (z ∷ []) (replicate (slots - length (xs ++ (z ∷ []))) z)
      ∙ ap (λ (n : ℕ). xs ++ replicate n z) (sym left)

  -- the filled slots are the list
  pub slots_filled : take (length xs) (slotted z xs) ≡ xs
  unfolding slotted
  slots_filled = take-append_seam xs (replicate (slots - length xs) z)

  -- any slot is the list's, with zero past its end
  pub slots_read : (k : ℕ) → get_or (slotted z xs) k z ≡ get_or xs k z
  unfolding slotted
  slots_read k = padded z xs (slots - length xs) k
