-- The ends of a range as one number each, and the tests that a vector in range passes. Assumes nothing.
use mathlib.Core.Path.{◌≡◌, refl, sym, ap, ◌∙◌}
use mathlib.Core.Bool.{Bool, true, false}
use Prim.Native.Nat.{ℕ, zero, suc, ◌+◌, ◌-◌, ◌*◌, ◌≤◌, min}
use native.Mathlib.Omega.{arith}
use borrow.Author.Tests.{leb-true, leb-false}
use lib.Dec.{leb}
use lib.IntN.{ℤ, pos, negsuc, neg_ℤ, ◌+ℤ◌, ◌-ℤ◌, ◌*ℤ◌, neg_ℤ-+ℤ, +ℤ_assoc, +ℤ_comm, +ℤ-neg_ℤ_cancel, -ℤ-+ℤ_cancel}
use lib.Signed.{le_z}
use mir.Val.{sel}
use Rattle.ground.proofs.TestLaws.{both}
use Rattle.motion.specs.declared.vector.MotionVector.{MotionVector}
use Rattle.motion.specs.declared.range.MvRange.{MvRange}
use Rattle.motion.specs.Limits.{vector_limit}
use Rattle.motion.specs.Range.{mv_min, mv_max, clip, within, in_range}

-- the minimum lies 32bx + 128 + 8bw below zero
pub min-is : (b size : ℕ) → mv_min b size ≡ neg_ℤ (pos (32 * b + 128 + 8 * size))
unfolding mv_min
min-is b size =
    ap (λ (z : ℤ). z -ℤ pos (8 * size)) (sym (neg_ℤ-+ℤ (pos (32 * b)) (pos 128)))
    ∙ sym (neg_ℤ-+ℤ (pos (32 * b + 128)) (pos (8 * size)))

pub pos-minus : (a b : ℕ) → b ≤ a → pos a -ℤ pos b ≡ pos (a - b)
pos-minus a b h =
    let whole : a ≡ a - b + b = omega arith in
    ap (λ (n : ℕ). pos n -ℤ pos b) whole ∙ +ℤ-neg_ℤ_cancel (pos (a - b)) (pos b)

-- what is taken off and put back leaves the sum
put_back : (a x y : ℤ) → a -ℤ x +ℤ y +ℤ x ≡ a +ℤ y
put_back a x y =
    +ℤ_assoc (a -ℤ x) y x ∙ ap (λ (z : ℤ). (a -ℤ x) +ℤ z) (+ℤ_comm y x) ∙ sym (+ℤ_assoc (a -ℤ x) x y)
    ∙ ap (λ (z : ℤ). z +ℤ y) (-ℤ-+ℤ_cancel a x)

-- the maximum is 32(W/4 − bx) + 128, whatever the block's size
pub max_is : (cells b size : ℕ) → b ≤ cells → mv_max cells b size ≡ pos (32 * (cells - b) + 128)
unfolding mv_max
max_is cells b size h =
    put_back (pos 32 *ℤ (pos cells -ℤ pos b)) (pos (8 * size)) (pos 128)
    ∙ ap (λ (z : ℤ). pos 32 *ℤ z +ℤ pos 128) (pos-minus cells b h)

-- clipping a number is clipping its distance from zero
up_by : (n : ℕ) (t : Bool) → leb n vector_limit ≡ t → sel t (pos n) (pos vector_limit) ≡ pos (min n vector_limit)
up_by n true e = let h = leb-true n vector_limit e in ap pos (omega arith)
up_by n false e = let h = leb-false n vector_limit e in ap pos (omega arith)

pub clip-up : (n : ℕ) → clip (pos n) ≡ pos (min n vector_limit)
unfolding clip
clip-up n = up_by n (leb n vector_limit) refl

down_by : (n : ℕ) (t : Bool) → leb 16382 n ≡ t → sel t (negsuc 16382) (negsuc n) ≡ neg_ℤ (pos (min (suc n) vector_limit))
down_by n true e =
    let same : vector_limit ≡ min (suc n) vector_limit = omega (arith, leb-true 16382 n e) in
    ap (λ (k : ℕ). neg_ℤ (pos k)) same
down_by n false e =
    let same : suc n ≡ min (suc n) vector_limit = omega (arith, leb-false 16382 n e) in
    ap (λ (k : ℕ). neg_ℤ (pos k)) same

pub clip-down : (n : ℕ) → clip (neg_ℤ (pos n)) ≡ neg_ℤ (pos (min n vector_limit))
unfolding clip
clip-down zero = refl
clip-down (suc n) = down_by n (leb 16382 n) refl

-- a vector in range is so on both axes
pub in_range_parts : (r : MvRange) (v : MotionVector) → in_range r v ≡ true → (within r.mvx_min v.col r.mvx_max ≡ true) × (within r.mvy_min v.row r.mvy_max ≡ true)
unfolding in_range
in_range_parts r v h = both (within r.mvx_min v.col r.mvx_max) (within r.mvy_min v.row r.mvy_max) h

-- at most m below zero and at most n above it
abbrev pub Between : (m n : ℕ) → ℤ → Type 0
Between m n (pos x) = x ≤ n
Between m n (negsuc x) = suc x ≤ m

not-below : (m n : ℕ) → le_z (neg_ℤ (pos m)) (negsuc n) ≡ true → suc n ≤ m
not-below zero n h = absurd (let z : ◌≡◌ {A = ℕ} 0 1 = cc in omega arith)
not-below (suc m) n h = omega (arith, leb-true n m h)

-- what a number within two ends is, where zero lies between them
pub between : (m n : ℕ) (z : ℤ) → within (neg_ℤ (pos m)) z (pos n) ≡ true → Between m n z
unfolding within
between m n (pos x) h = leb-true x n (both (le_z (neg_ℤ (pos m)) (pos x)) (leb x n) h).1
between m n (negsuc x) h = not-below m x (both (le_z (neg_ℤ (pos m)) (negsuc x)) true h).0
