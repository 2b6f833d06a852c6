-- The lines of a report on two grids, as bytes.
use Rattle.std.specs.Prelude.{ℕ, List, [], ◌∷◌, ◌++◌, length}
use Rattle.grid.specs.declared.cells.MEStats.{MEStats}
use Rattle.grid.specs.Grid.{Grid, stats_at}
use Rattle.compare.specs.Differ.{differing}
use Rattle.text.specs.Ascii.{ascii}
use Rattle.text.specs.Decimal.{decimal}
use Rattle.listing.specs.Parts.{◌␣◌, line, place_text, cell_text}

-- for a differing cell `x y`, then row, col and SAD of the first, then of the second
unfoldable pub cell_line : (across i : ℕ) (first second : MEStats) → List ℕ
cell_line across i first second = line (place_text across i ␣ cell_text first ␣ cell_text second)

-- the lines of some places of two grids, one behind the other
unfoldable pub lines_of : (across : ℕ) (f g : Grid) (places : List ℕ) → List ℕ
lines_of across f g [] = []
lines_of across f g (i ∷ places) = cell_line across i (stats_at f i) (stats_at g i) ++ lines_of across f g places

-- a last line `differ N of M`
unfoldable pub last_line : ℕ → ℕ → List ℕ
last_line n m = line (ascii "differ" ␣ decimal n ␣ ascii "of" ␣ decimal m)

-- the lines of all places that differ, then the last
unfoldable pub report_of : (across cells : ℕ) (f g : Grid) → List ℕ
report_of across cells f g =
    let places = differing f g 0 cells in
    lines_of across f g places ++ last_line (length places) cells
