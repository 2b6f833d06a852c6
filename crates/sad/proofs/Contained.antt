-- The pads are enough: for every size, level and block, the block and each reference block of a vector in range lie inside
-- stride times rows samples. Assumes nothing.
use mathlib.Core.Path.{◌≡◌, refl, sym, ap, subst, ◌∙◌}
use mathlib.Core.Bool.{true}
use Prim.Native.Nat.{ℕ, suc, ◌+◌, ◌-◌, ◌*◌, ◌/◌, ◌^◌, ◌≤◌}
use native.Mathlib.Nat.{add-mul, mul_comm, mul-le-mul_right, div-le_self}
use native.Mathlib.Omega.{arith}
use lib.IntN.{ℤ, pos, negsuc, neg_ℤ, nat_abs, ◌+ℤ◌, +ℤ_assoc, +ℤ_comm}
use lib.Signed.{non_neg}
use Rattle.motion.specs.declared.block.Block.{Block}
use Rattle.motion.specs.declared.level.Level.{Level}
use Rattle.motion.specs.declared.vector.MotionVector.{MotionVector}
use Rattle.motion.specs.Limits.{cell_side, vector_limit}
use Rattle.motion.specs.Asked.{Near}
use Rattle.motion.specs.Frame.{Side, Starts, Sized}
use Rattle.motion.specs.Range.{range_of, within, in_range}
use Rattle.motion.specs.Block.{plane_of, cropped_to, block_of, weighed}
use Rattle.motion.proofs.RangeLaws.{pos-minus, Between, in_range_parts}
use Rattle.motion.proofs.AxisLaws.{Fitting, fitting, start-inside, crop_most, room, inside, low_at, high_at, distances, in_range_by, down-clipped, up-clipped, down-whole, up-whole}
use Rattle.sad.specs.Asked.{Inside, Measured, Lies}
use Rattle.sad.specs.Plane.{moved, org_start, ref_start}
use Rattle.sad.proofs.Places.{sample_is}

-- where a vector's component moves a coordinate to, on an axis of a plane
pub record Moved (S C P : ℕ) (z : ℤ) : Type 0 where
  pub up : non_neg z ≡ true
  pub far : nat_abs z + C ≤ S + 2 * P

-- a component between two ends is no larger than they are
between-most : (m n k : ℕ) (z : ℤ) → m ≤ k → n ≤ k → Between m n z → nat_abs z ≤ k
between-most m n k (pos x) hm hn h = omega arith
between-most m n k (negsuc x) hm hn h = omega arith

up_to : (S C P n : ℕ) {z : ℤ} → z ≡ pos n → n + C ≤ S + 2 * P → Moved S C P z
up_to S C P n e h =
    subst (Moved S C P) (sym e) (record { up = refl; far = h })

-- B + q + P in one number, where the move goes back by q
back_by : (B q P : ℕ) → q ≤ B + P → pos B +ℤ neg_ℤ (pos q) +ℤ pos P ≡ pos (B + P - q)
back_by B q P h =
    +ℤ_assoc (pos B) (neg_ℤ (pos q)) (pos P) ∙ ap (λ (z : ℤ). pos B +ℤ z) (+ℤ_comm (neg_ℤ (pos q)) (pos P))
    ∙ sym (+ℤ_assoc (pos B) (pos P) (neg_ℤ (pos q))) ∙ pos-minus (B + P) q h

module _ (B S C T P : ℕ) (rim : T + C ≤ P) (fits : B + C ≤ S) where
  moved_in : (m n : ℕ) (z : ℤ) → m ≤ 8 * (B + T + C) → n ≤ 8 * (S - B + T) → Between m n z → Moved S C P (moved B z +ℤ pos P)
  unfolding moved
  moved_in m n (pos x) hm hn h = up_to S C P (B + x / 8 + P) refl (omega arith)
  moved_in m n (negsuc x) hm hn h = up_to S C P (B + P - suc x / 8) (back_by B (suc x / 8) P (omega arith)) (omega arith)

-- a block that starts at column X of row Y
pub inside-by : (X Y stride rows w h n : ℕ) → X + w ≤ stride → Y + h ≤ rows → stride * rows ≤ n → Inside n (Y * stride + X) stride w h
inside-by X Y stride rows w h n across down lent y p =
    let last = mul-le-mul_right {m = Y + y + 1} {n = rows} stride (omega arith) in
    omega (arith, last, add-mul (Y + y) 1 stride, add-mul Y y stride, mul_comm stride rows)

module _ {l : Level} {size W H bx by : ℕ} (sized : Sized l size) (wide : Side W) (high : Side H) (across : Starts W size bx) (down : Starts H size by) where
  fit : Fitting l size
  fit = fitting sized

  -- one axis: what a component in range does
  axis : {side b : ℕ} → Side side → Starts side size b → (z : ℤ) → within (low_at side size b l.ssdec) z (high_at side size b l.ssdec) ≡ true → Moved (side / 2 ^ l.ssdec) (cropped_to side size b / 2 ^ l.ssdec) l.pad (moved (cell_side * b / 2 ^ l.ssdec) z +ℤ pos l.pad)
  axis {side} {b} frame starts z h =
      let k = 2 ^ l.ssdec in
      let r = distances l.ssdec starts in
      moved_in (cell_side * b / k) (side / k) (cropped_to side size b / k) (16 / k) l.pad (room fit frame starts) (inside fit frame starts) r.down r.up z
      (down-whole fit frame starts r) (up-whole fit frame starts r) (in_range_by r z h)

  -- and how large it is: no end is beyond the vector limit
  axis_near : {side b : ℕ} → Starts side size b → (z : ℤ) → within (low_at side size b l.ssdec) z (high_at side size b l.ssdec) ≡ true → nat_abs z ≤ vector_limit
  axis_near starts z h =
      let r = distances l.ssdec starts in
      between-most r.down r.up vector_limit z (down-clipped r) (up-clipped r) (in_range_by r z h)

  columns : (v : MotionVector) → in_range (block_of W H l size bx by).range v ≡ true → Moved (W / 2 ^ l.ssdec) (cropped_to W size bx / 2 ^ l.ssdec) l.pad (moved (cell_side * bx / 2 ^ l.ssdec) v.col +ℤ pos l.pad)
  unfolding block_of range_of
  columns v h = axis wide across v.col (in_range_parts (block_of W H l size bx by).range v h).0

  lines : (v : MotionVector) → in_range (block_of W H l size bx by).range v ≡ true → Moved (H / 2 ^ l.ssdec) (cropped_to H size by / 2 ^ l.ssdec) l.pad (moved (cell_side * by / 2 ^ l.ssdec) v.row +ℤ pos l.pad)
  unfolding block_of range_of
  lines v h = axis high down v.row (in_range_parts (block_of W H l size bx by).range v h).1

  near : (v : MotionVector) → in_range (block_of W H l size bx by).range v ≡ true → Near v
  unfolding block_of range_of
  near v h =
      let both = in_range_parts (block_of W H l size bx by).range v h in
      record { row = axis_near down v.row both.1; col = axis_near across v.col both.0 }

  measured : Measured (block_of W H l size bx by)
  unfolding block_of plane_of
  measured =
      let k = 2 ^ l.ssdec in
      let cx = cropped_to W size bx in
      let cy = cropped_to H size by in
      record {
        across = omega (arith, div-le_self (cell_side * bx) k, start-inside fit wide across, wide.most);
        down = omega (arith, div-le_self (cell_side * by) k, start-inside fit high down, high.most);
        pad = omega (arith, fit.pad);
        stride = omega (arith, div-le_self W k, wide.most, fit.pad);
        wide = omega (arith, div-le_self cx k, (crop_most fit wide across).0, fit.largest);
        high = omega (arith, div-le_self cy k, (crop_most fit high down).0, fit.largest);
      }

  pub lies : (n : ℕ) → (plane_of W H l).stride * (plane_of W H l).rows ≤ n → Lies (block_of W H l size bx by) n
  unfolding block_of plane_of org_start ref_start
  lies n lent =
      let b = block_of W H l size bx by in
      record {
        measured = measured;
        near = near;
        org =
            subst (λ (s : ℕ). Inside n s b.stride b.w b.h) (sym (sample_is b.stride b.pad (pos b.po_x) (pos b.po_y) refl refl))
            (inside-by (b.po_x + b.pad) (b.po_y + b.pad) b.stride (plane_of W H l).rows b.w b.h n
            (omega (arith, inside fit wide across)) (omega (arith, inside fit high down)) lent);
        reaches = λ v h. record { left = (columns v h).up; up = (lines v h).up };
        ref = λ v h.
            subst (λ (s : ℕ). Inside n s b.stride b.w b.h) (sym (sample_is b.stride b.pad (moved b.po_x v.col) (moved b.po_y v.row) (columns v h).up (lines v h).up))
            (inside-by (nat_abs (moved b.po_x v.col +ℤ pos b.pad)) (nat_abs (moved b.po_y v.row +ℤ pos b.pad)) b.stride (plane_of W H l).rows b.w b.h n
            (columns v h).far (lines v h).far lent);
      }

-- at another weight a block lies where it did
pub weighed-measured : {b : Block} (weight : ℕ) → Measured b → Measured (weighed b weight)
weighed-measured weight m =
    record { across = m.across; down = m.down; pad = m.pad; stride = m.stride; wide = m.wide; high = m.high }

pub weighed-lies : {b : Block} {n : ℕ} (weight : ℕ) → Lies b n → Lies (weighed b weight) n
unfolding org_start ref_start
weighed-lies weight h =
    record {
      measured = weighed-measured weight h.measured;
      near = h.near;
      org = h.org;
      reaches = λ v e. record { left = (h.reaches v e).left; up = (h.reaches v e).up };
      ref = h.ref;
    }
