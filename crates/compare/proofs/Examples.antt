-- Two grids of four cells with one difference, as document 02 has them, compared. Assumes nothing.
use mathlib.Core.Path.{◌≡◌, refl}
use mathlib.Core.List.{List, [], ◌∷◌}
use lib.IntN.{ℤ, pos, neg_ℤ}
use Rattle.grid.specs.Grid.{Grid, grid_of, stored_at, stats_at, room}
use Rattle.refusal.specs.Refusals.{refuse, ◌then◌}
use Rattle.gridfile.specs.declared.read.Shape.{Shape}
use Rattle.compare.specs.Differ.{eq_z, same_cell, differs_at, places_from, differing}
use Rattle.compare.specs.Answer.{compare_refusal, comparison_of, compare_answer}

-- two cells across and two down, each with row −24, col −24 and SAD 0
abbrev components : List ℤ
components = neg_ℤ (pos 24) ∷ neg_ℤ (pos 24) ∷ neg_ℤ (pos 24) ∷ neg_ℤ (pos 24) ∷ []

abbrev flat : Grid
flat = grid_of components components (0 ∷ 0 ∷ 0 ∷ 0 ∷ [])

-- the same with row 0, col 8 and SAD 64 in the cell at column 1 of row 0
abbrev other : Grid
other =
    grid_of (neg_ℤ (pos 24) ∷ pos 0 ∷ neg_ℤ (pos 24) ∷ neg_ℤ (pos 24) ∷ []) (neg_ℤ (pos 24) ∷ pos 8 ∷ neg_ℤ (pos 24) ∷ neg_ℤ (pos 24) ∷ []) (0 ∷ 64 ∷ 0 ∷ 0 ∷ [])

abbrev square : Shape
square = record { code = 0; columns = 2; rows = 2 }

pub one-differs : compare_answer square flat square other 0 ≡ record { code = 0; count = 1; first = 1 }
unfolding compare_answer compare_refusal comparison_of refuse ◌then◌ room differing places_from differs_at same_cell eq_z stats_at stored_at
one-differs = refl

pub no_more : compare_answer square flat square other 2 ≡ record { code = 0; count = 0; first = 4 }
unfolding compare_answer compare_refusal comparison_of refuse ◌then◌ room differing places_from differs_at same_cell eq_z stats_at stored_at
no_more = refl
