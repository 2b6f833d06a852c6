-- The tables' rule, computed once over each table, and how far a pattern's points lie from its centre. Assumes nothing.
use mathlib.Core.Path.{◌≡◌, refl}
use mathlib.Core.Bool.{Bool, true, false, ◌&&◌, cond}
use mathlib.Core.List.{List, [], ◌∷◌}
use Prim.Native.Nat.{ℕ, zero, suc, ◌+◌, ◌*◌, ◌/◌, ◌%◌, ◌^◌, ◌≤◌, ◌<◌, suc-le-suc}
use native.Mathlib.Nat.{le_trans, mul-le-mul}
use native.Mathlib.Omega.{arith}
use borrow.Author.Tests.{leb-true}
use lib.Dec.{leb, ltb, lit≤}
use lib.IntN.{pos, negsuc, ◌-ℤ◌}
use lib.ListN.{get_or}
use lib.Signed.{mag}
use mir.Syntax.{w16}
use mir.Val.{to_z}
use mir.ValLaws.{to_z_pos}
use Rattle.ground.proofs.Bias.{mag-add, mag-mul}
use Rattle.ground.proofs.TestLaws.{both}
use Rattle.motion.specs.declared.vector.MotionVector.{MotionVector}
use Rattle.motion.specs.Vector.{FitsV, zero_v, times_v, shl_v}
use Rattle.motion.proofs.VectorLaws.{Short, short_fits_v, times-short}
use Rattle.points.specs.declared.patterns.Pattern.{Pattern}
use Rattle.points.specs.declared.patterns.Pattern.TheVariants.{Diamond, Square, RowLine, ColLine, Eighths, Umh}
use Rattle.points.specs.Patterns.{diamond_table, square_table, umh_table, row_table, col_table, eighths_place, offset, points}
use Rattle.points.specs.Asked.{Plain, Slight}

abbrev slight : MotionVector → Bool
slight v = leb (mag v.row) 32 && leb (mag v.col) 32

abbrev all_slight : List MotionVector → Bool
all_slight [] = true
all_slight (v ∷ vs) = slight v && all_slight vs

-- a test over a whole table is the rule at each index
pub slight_at : (vs : List MotionVector) → all_slight vs ≡ true → (i : ℕ) → Slight (get_or vs i zero_v)
slight_at [] h i = record { row = omega arith; col = omega arith }
slight_at (v ∷ vs) h zero =
    let parts = both (slight v) (all_slight vs) h in
    let sizes = both (leb (mag v.row) 32) (leb (mag v.col) 32) parts.0 in
    record { row = leb-true (mag v.row) 32 sizes.0; col = leb-true (mag v.col) 32 sizes.1 }
slight_at (v ∷ vs) h (suc i) = slight_at vs (both (slight v) (all_slight vs) h).1 i

pub slight_short : (v : MotionVector) → Slight v → Short v
slight_short v s = record { row = omega (arith, s.row); col = omega (arith, s.col) }

pub scaled_short : (v : MotionVector) (k : ℕ) → Slight v → k ≤ 24 → Short (times_v v (pos k))
scaled_short v k s h = times-short v 32 k s.row s.col (omega arith)

-- and the machine's product by such a number is the vector's
pub scaled_fits : {v : MotionVector} → Slight v → (k : ℕ) → k ≤ 24 → FitsV (times_v v (to_z w16 k))
scaled_fits {v} s k h = rw (to_z_pos w16 k (omega arith)) (short_fits_v _ (scaled_short v k s h))

-- the diamond at radius 1 and 2
pub diamond-short : (i r : ℕ) → r ≤ 1 → Short (shl_v (get_or diamond_table i zero_v) r)
unfolding shl_v
diamond-short i r h =
    let v = get_or diamond_table i zero_v in
    let s = slight_at diamond_table refl i in
    let two : 2 ^ r ≤ 2 = pow_le r h in
    record {
      row = le_trans (mag-mul v.row (2 ^ r)) (le_trans (mul-le-mul {n₂ = 33} {m₂ = 2} (suc-le-suc s.row) two) (lit≤ tt));
      col = le_trans (mag-mul v.col (2 ^ r)) (le_trans (mul-le-mul {n₂ = 33} {m₂ = 2} (suc-le-suc s.col) two) (lit≤ tt));
    }
  where
    pow_le : (r : ℕ) → r ≤ 1 → 2 ^ r ≤ 2
    pow_le zero h = lit≤ tt
    pow_le (suc zero) h = lit≤ tt
    pow_le (suc (suc r)) h = absurd (omega arith)

-- the square of eighths
place-by : (i : ℕ) (t : Bool) → i < 24 → cond t i (i + 1) ≤ 24
place-by i true h = omega arith
place-by i false h = omega arith

pub place-most : (i : ℕ) → i < 24 → eighths_place i ≤ 24
unfolding eighths_place
place-most i h = place-by i (ltb i 12) h

pub place-size : (n k : ℕ) → n ≤ k → mag (pos n -ℤ pos 2) ≤ k + 4
place-size n k h = omega (arith, mag-add (pos n) (negsuc 1))

-- every pattern's points are near its centre
pub offset-short : (q : Pattern) → Plain q → (i : ℕ) → i < points q → Short (offset q i)
unfolding offset Plain points
offset-short (Diamond r) h i b = diamond-short i r h
offset-short Square h i b = slight_short (get_or square_table i zero_v) (slight_at square_table refl i)
offset-short RowLine h i b = scaled_short (get_or row_table (i % 2) zero_v) (i / 2 * 2 + 1) (slight_at row_table refl (i % 2)) (omega arith)
offset-short ColLine h i b = scaled_short (get_or col_table (i % 2) zero_v) (i / 2 * 2 + 1) (slight_at col_table refl (i % 2)) (omega arith)
offset-short Eighths h i b =
    let n = eighths_place i in
    let most = place-most i b in
    record { row = omega (arith, place-size (n / 5) 24 (omega arith)); col = omega (arith, place-size (n % 5) 24 (omega arith)) }
offset-short Umh h i b = scaled_short (get_or umh_table (i % 16) zero_v) (i / 16 + 1) (slight_at umh_table refl (i % 16)) (omega arith)
