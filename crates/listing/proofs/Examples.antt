-- Document 01's listing of the flat frame's grid, and document 02's line of a refusal, byte by byte. Assumes nothing.
use mathlib.Core.Path.{◌≡◌, refl}
use mathlib.Core.List.{List, [], ◌∷◌}
use lib.IntN.{ℤ, pos, neg_ℤ}
use Rattle.grid.specs.Grid.{Grid, grid_of, stored_at, stats_at}
use Rattle.text.specs.Ascii.{ascii}
use Rattle.text.specs.Decimal.{digits_in, decimal, signed}
use Rattle.listing.specs.Parts.{place_text, cell_text}
use Rattle.listing.specs.Lines.{heading_line, listed_line, listed_lines, listing_of, refused_line}
use Rattle.listing.specs.Cells.{cells_from}

-- two cells across and two down, each with row −24, col −24 and SAD 0
abbrev components : List ℤ
components = neg_ℤ (pos 24) ∷ neg_ℤ (pos 24) ∷ neg_ℤ (pos 24) ∷ neg_ℤ (pos 24) ∷ []

abbrev flat : Grid
flat = grid_of components components (0 ∷ 0 ∷ 0 ∷ 0 ∷ [])

pub listing : listing_of 2 2 flat ≡ ascii "cells 2 2\n0 0 -24 -24 0\n1 0 -24 -24 0\n0 1 -24 -24 0\n1 1 -24 -24 0\n"
unfolding listing_of heading_line listed_lines listed_line place_text cell_text decimal digits_in signed cells_from stats_at stored_at ascii
listing = refl

pub refused : refused_line 14 ≡ ascii "refused 14\n"
unfolding refused_line decimal digits_in ascii
refused = refl
