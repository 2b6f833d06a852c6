-- Uneven multi-hexagon, reach 24. Within a stage the best changes but the centre doesn't.
use Rattle.points.specs.declared.patterns.Pattern.TheVariants.{RowLine, ColLine, Eighths, Umh}
use Rattle.search.specs.declared.result.MotionSearchResult.{MotionSearchResult}
use Rattle.search.specs.Result.{CostOf, try_pattern}
use Rattle.search.specs.Hexagon.{hexagon}

-- rows ±1, ±3 .. ±23 pixels round the start; then columns ±1 .. ±11 round the same start
unfoldable pub cross : CostOf → MotionSearchResult → MotionSearchResult
cross rd best = try_pattern rd (try_pattern rd best RowLine best.mv) ColLine best.mv

-- then rows and columns −2..2 in eighths round the best so far
unfoldable pub eighths_square : CostOf → MotionSearchResult → MotionSearchResult
eighths_square rd best = try_pattern rd best Eighths best.mv

-- then the sixteen-point table times 1..6 round the best after that
unfoldable pub rings : CostOf → MotionSearchResult → MotionSearchResult
rings rd best = try_pattern rd best Umh best.mv

-- then hexagon
unfoldable pub multi_hexagon : CostOf → MotionSearchResult → MotionSearchResult
multi_hexagon rd best = hexagon rd (rings rd (eighths_square rd (cross rd best)))
