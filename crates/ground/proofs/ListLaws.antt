-- Laws of lists that are written into, and of their parts. Assumes nothing.
use mathlib.Core.Path.{◌≡◌}
use mathlib.Core.List.{List, [], ◌∷◌, ◌++◌}
use Prim.Native.Nat.{ℕ, zero, suc, ◌+◌, ◌≤◌}
use native.Mathlib.Nat.{add-zero, zero-add, add-suc, suc-add, add_assoc}
use lib.ListN.{length, set, take, drop}
use lib.Seq.{sets, slice, take-nil, take-take, drop-drop}

-- items put behind others are put with them
pub sets_append : {A : Type 0} (l : List A) (i : ℕ) (xs ys : List A) → sets l i (xs ++ ys) ≡ sets (sets l i xs) (i + length xs) ys
sets_append l i [] ys = rw add-zero
sets_append l i (x ∷ xs) ys = rw (add-suc, ← suc-add) (sets_append (set l i x) (suc i) xs ys)

-- a part of a part
pub take-drop : (n t : ℕ) (l : List ℕ) → take t (drop n l) ≡ drop n (take (n + t) l)
take-drop zero t l = rw zero-add
take-drop (suc n) t [] = rw suc-add (take-nil t)
take-drop (suc n) t (x ∷ l) = rw suc-add (take-drop n t l)

pub slice_slice : (l : List ℕ) (at end f n : ℕ) → at + (f + n) ≤ end → slice (at + f) (at + f + n) l ≡ slice f (f + n) (slice at end l)
slice_slice l at end f n h = rw (take-drop at (f + n) (take end l), take-take, drop-drop, add_assoc)
