-- How long the lines of a report are. Assumes nothing.
use mathlib.Core.Path.{◌≡◌}
use Prim.Native.Nat.{ℕ, ◌+◌, ◌≤◌, ◌<◌}
use native.Mathlib.Omega.{arith}
use lib.ListN.{length, length-append}
use Rattle.grid.specs.declared.cells.MEStats.{MEStats}
use Rattle.records.specs.Records.{FitsCell}
use Rattle.listing.specs.Parts.{across_most, cells_most, place_text, cell_text}
use Rattle.listing.proofs.LineLaws.{place_most, cell_most}
use Rattle.report.specs.Lines.{cell_line}

length-line : (across i : ℕ) (a b : MEStats) → length (cell_line across i a b) ≡ length (place_text across i) + length (cell_text a) + length (cell_text b) + 3
unfolding cell_line
length-line across i a b = simp length-append (omega arith)

pub line-most : (across i : ℕ) (a b : MEStats) → 0 < across → across ≤ across_most → i < cells_most → FitsCell a → FitsCell b → length (cell_line across i a b) ≤ 60
line-most across i a b p h k f g =
    omega (arith, length-line across i a b, place_most across i p h k, cell_most a f, cell_most b g)
