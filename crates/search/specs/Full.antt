-- Full search of a window, and refinement.
use Rattle.std.specs.Prelude.{ℕ, zero, suc, ℤ}
use Rattle.motion.specs.declared.vector.MotionVector.{MotionVector}
use Rattle.motion.specs.declared.range.MvRange.{MvRange}
use Rattle.points.specs.declared.window.Span.{Span}
use Rattle.points.specs.declared.window.Window.{Window}
use Rattle.points.specs.Window.{span_at, refine_window}
use Rattle.search.specs.declared.result.MotionSearchResult.{MotionSearchResult}
use Rattle.search.specs.Result.{CostOf, empty_result, try_each}

-- one row of a window
unfoldable pub row_of : (rd : CostOf) (best : MotionSearchResult) (row : ℤ) (cols : Span) → MotionSearchResult
row_of rd best row cols = try_each rd best cols.count (λ k. record { row = row; col = span_at cols.lo k })

-- the first n rows of a window, from an empty best
unfoldable pub window_to : (rd : CostOf) (rows cols : Span) (n : ℕ) → MotionSearchResult
window_to rd rows cols zero = empty_result
window_to rd rows cols (suc n) = row_of rd (window_to rd rows cols n) (span_at rows.lo n) cols

-- a window in raster order, from an empty best
unfoldable pub full_search : CostOf → Window → MotionSearchResult
full_search rd window = window_to rd window.rows window.cols window.rows.count

-- refinement
unfoldable pub refine : (rd : CostOf) (range : MvRange) (stored : MotionVector) (s : ℕ) → MotionSearchResult
refine rd range stored s = full_search rd (refine_window range stored s)
