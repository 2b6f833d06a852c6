-- Windows of whole pixels, and the window of a refinement.
use Rattle.std.specs.Prelude.{Bool, cond, ◌&&◌, ℕ, ◌^◌, ltb, ℤ, pos, nat_abs, ◌+ℤ◌, ◌-ℤ◌, ◌*ℤ◌}
use Rattle.std.specs.Int.Signed.{lt_z, quot_z, shr_z}
use Rattle.motion.specs.declared.vector.MotionVector.{MotionVector}
use Rattle.motion.specs.declared.range.MvRange.{MvRange}
use Rattle.motion.specs.Limits.{eighths}
use Rattle.points.specs.declared.window.Span.{Span}
use Rattle.points.specs.declared.window.Window.{Window}

unfoldable pub larger : ℤ → ℤ → ℤ
larger a b = cond (lt_z a b) b a

unfoldable pub smaller : ℤ → ℤ → ℤ
smaller a b = cond (lt_z a b) a b

-- how many whole pixels there are from lo to hi, both ends tried
unfoldable pub span_count : ℤ → ℤ → ℕ
span_count lo hi = cond (lt_z hi lo) 0 (nat_abs (hi -ℤ lo +ℤ pos 1))

-- with m the stored component, >> s, then /8 toward zero: from max(m−1, min/8) to min(m+2, max/8)
unfoldable pub refine_span : (min max stored : ℤ) (s : ℕ) → Span
refine_span min max stored s =
    let m = quot_z (shr_z stored (2 ^ s)) (pos eighths) in
    let lo = larger (m -ℤ pos 1) (quot_z min (pos eighths)) in
    let hi = smaller (m +ℤ pos 2) (quot_z max (pos eighths)) in
    record { lo = lo; count = span_count lo hi }

-- the component is eight times the offset
unfoldable pub span_at : ℤ → ℕ → ℤ
span_at lo k = pos eighths *ℤ (lo +ℤ pos k)

-- rows likewise
unfoldable pub refine_window : MvRange → MotionVector → ℕ → Window
refine_window range stored s =
    record {
      rows = refine_span range.mvy_min range.mvy_max stored.row s;
      cols = refine_span range.mvx_min range.mvx_max stored.col s;
    }

-- whether a window has at least one row and one column
unfoldable pub window_ok : Window → Bool
window_ok window = ltb 0 window.rows.count && ltb 0 window.cols.count
