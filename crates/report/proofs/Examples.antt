-- Document 02's report of one difference among four, byte by byte. Assumes nothing.
use mathlib.Core.Path.{◌≡◌, refl}
use mathlib.Core.List.{List, [], ◌∷◌}
use Prim.Native.Nat.{ℕ}
use lib.IntN.{ℤ, pos, neg_ℤ}
use Rattle.grid.specs.declared.cells.MEStats.{MEStats}
use Rattle.grid.specs.Grid.{Grid, grid_of, stored_at, stats_at, with_cell}
use Rattle.compare.specs.Differ.{eq_z, same_cell, differs_at, places_from, differing}
use Rattle.text.specs.Ascii.{ascii}
use Rattle.text.specs.Decimal.{digits_in, decimal, signed}
use Rattle.listing.specs.Parts.{place_text, cell_text}
use Rattle.report.specs.Lines.{cell_line, lines_of, last_line, report_of}

-- two cells across and two down, each with row −24, col −24 and SAD 0
abbrev components : List ℤ
components = neg_ℤ (pos 24) ∷ neg_ℤ (pos 24) ∷ neg_ℤ (pos 24) ∷ neg_ℤ (pos 24) ∷ []

abbrev flat : Grid
flat = grid_of components components (0 ∷ 0 ∷ 0 ∷ 0 ∷ [])

-- another that differs in its second cell
abbrev moved : MEStats
moved = record { mv = record { row = pos 0; col = pos 8 }; normalized_sad = 64 }

abbrev other : Grid
other = with_cell 1 moved flat

abbrev first_line : List ℕ
first_line =
    0x31 ∷ 0x20 ∷ 0x30 ∷ 0x20 ∷ 0x2D ∷ 0x32 ∷ 0x34 ∷ 0x20 ∷ 0x2D ∷ 0x32 ∷ 0x34 ∷ 0x20 ∷ 0x30 ∷ 0x20 ∷
    0x30 ∷ 0x20 ∷ 0x38 ∷ 0x20 ∷ 0x36 ∷ 0x34 ∷ 0x0A ∷ []

pub first-line : cell_line 2 1 (stats_at flat 1) (stats_at other 1) ≡ first_line
unfolding cell_line place_text cell_text decimal digits_in signed stats_at stored_at with_cell
first-line = refl

pub first-spelled : first_line ≡ ascii "1 0 -24 -24 0 0 8 64\n"
unfolding ascii
first-spelled = refl

pub last_line_lem : last_line 1 4 ≡ ascii "differ 1 of 4\n"
unfolding last_line decimal digits_in ascii
last_line_lem = refl

pub report : report_of 2 4 flat other ≡ ascii "1 0 -24 -24 0 0 8 64\ndiffer 1 of 4\n"
unfolding report_of differing places_from differs_at same_cell eq_z lines_of cell_line place_text cell_text last_line decimal digits_in signed stats_at stored_at with_cell ascii
report = refl
