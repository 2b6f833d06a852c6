-- Two lists that are accepted out of raster order. Assumes nothing.
use mathlib.Core.Path.{◌≡◌, refl}
use mathlib.Core.List.{[], ◌∷◌}
use Rattle.ground.specs.Every.{all_below, all_in}
use Rattle.order.specs.List.{times, names_each, before, shares_edge, all_earlier, keeps_raster, list_refusal}

-- three across and two down, by diagonals
pub diagonals : list_refusal 3 2 (0 ∷ 3 ∷ 1 ∷ 4 ∷ 2 ∷ 5 ∷ []) ≡ 0
unfolding list_refusal names_each keeps_raster all_earlier shares_edge before all_in all_below times
diagonals = refl

-- 3 starts the second row, so that it needs no superblock of the first but the one above
pub row-start_early : list_refusal 3 2 (0 ∷ 3 ∷ 1 ∷ 2 ∷ 4 ∷ 5 ∷ []) ≡ 0
unfolding list_refusal names_each keeps_raster all_earlier shares_edge before all_in all_below times
row-start_early = refl
