-- Laws of the full search: its rows in turn, and that no candidate is cheaper than what is handed back. Assumes nothing.
use mathlib.Core.Path.{◌≡◌, refl, ap}
use Prim.Native.Nat.{ℕ, zero, suc, ◌+◌, ◌≤◌, ◌<◌}
use native.Mathlib.Nat.{le_trans}
use native.Mathlib.Numerals.{add-one}
use native.Mathlib.Omega.{arith}
use Rattle.motion.specs.declared.vector.MotionVector.{MotionVector}
use Rattle.points.specs.declared.window.Span.{Span}
use Rattle.points.specs.Window.{span_at}
use Rattle.search.specs.Result.{CostOf, empty_result}
use Rattle.search.specs.Full.{row_of, window_to}
use Rattle.search.proofs.LeastLaws.{last_or, least-each, least-tried}

-- a loop that has tried k rows tries one more
module _ (rd : CostOf) (rows cols : Span) where
  pub window_none : window_to rd rows cols 0 ≡ empty_result
  unfolding window_to
  window_none = refl

  pub window_more : (k : ℕ) → window_to rd rows cols (k + 1) ≡ row_of rd (window_to rd rows cols k) (span_at rows.lo k) cols
  unfolding window_to
  window_more k = ap (window_to rd rows cols) (add-one k)

-- no candidate of a window is cheaper than what is handed back
module _ (rd : CostOf) (rows cols : Span) (j k : ℕ) (hk : k < cols.count) where
  pub least-window : (n : ℕ) → j < n → (window_to rd rows cols n).rd.cost ≤ (rd (record { row = span_at rows.lo j; col = span_at cols.lo k })).cost
  unfolding window_to row_of
  least-window zero h = absurd (omega arith)
  least-window (suc n) h =
      let before = window_to rd rows cols n in
      let row = span_at rows.lo n in
      let tried : ℕ → MotionVector = λ i. record { row = row; col = span_at cols.lo i } in
      last_or (λ i. (row_of rd before row cols).rd.cost ≤ (rd (record { row = span_at rows.lo i; col = span_at cols.lo k })).cost) j n h
      (λ less. le_trans (least-each rd before cols.count tried) (least-window n less)) (least-tried rd before cols.count tried k hk)
