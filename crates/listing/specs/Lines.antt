-- The lines of a grid's listing, as bytes.
use Rattle.std.specs.Prelude.{ℕ, suc, ◌*◌, List, [], ◌∷◌, ◌++◌}
use Rattle.grid.specs.declared.cells.MEStats.{MEStats}
use Rattle.grid.specs.Grid.{Grid}
use Rattle.text.specs.Ascii.{ascii}
use Rattle.text.specs.Decimal.{decimal}
use Rattle.listing.specs.Parts.{◌␣◌, line, place_text, cell_text}
use Rattle.listing.specs.Cells.{grid_cells}

-- a first line `cells COLUMNS ROWS`
unfoldable pub heading_line : (columns rows : ℕ) → List ℕ
heading_line columns rows = line (ascii "cells" ␣ decimal columns ␣ decimal rows)

-- for a cell `x y`, then its row, col and SAD
unfoldable pub listed_line : (across i : ℕ) (cell : MEStats) → List ℕ
listed_line across i cell = line (place_text across i ␣ cell_text cell)

-- the lines of cells from a place on, one behind the other
unfoldable pub listed_lines : (across i : ℕ) (cells : List MEStats) → List ℕ
listed_lines across i [] = []
listed_lines across i (cell ∷ cells) = listed_line across i cell ++ listed_lines across (suc i) cells

-- the heading, then the lines of all cells, row by row
unfoldable pub listing_of : (columns rows : ℕ) (g : Grid) → List ℕ
listing_of columns rows g = heading_line columns rows ++ listed_lines columns 0 (grid_cells g 0 (columns * rows))

-- a refusal is the only line, `refused N`
unfoldable pub refused_line : ℕ → List ℕ
refused_line n = line (ascii "refused" ␣ decimal n)
