-- Where two grids differ: the places of the cells that do not hold the same, in raster order.
use Rattle.std.specs.Prelude.{ℕ, zero, suc, ◌-◌, Bool, not, ◌&&◌, cond, List, [], ◌∷◌, eqb, ℤ}
use Rattle.std.specs.Int.Signed.{le_z}
use Rattle.grid.specs.declared.cells.MEStats.{MEStats}
use Rattle.grid.specs.Grid.{Grid, stats_at}

-- two signed numbers are equal where neither is larger
unfoldable pub eq_z : ℤ → ℤ → Bool
eq_z a b = le_z a b && le_z b a

-- two cells hold the same: row, col and SAD
unfoldable pub same_cell : MEStats → MEStats → Bool
same_cell a b =
    eq_z a.mv.row b.mv.row && eq_z a.mv.col b.mv.col && eqb a.normalized_sad b.normalized_sad

unfoldable pub differs_at : Grid → Grid → ℕ → Bool
differs_at f g i = not (same_cell (stats_at f i) (stats_at g i))

-- of so many places from one on, those that pass a test, in their order
unfoldable pub places_from : (ℕ → Bool) → ℕ → ℕ → List ℕ
places_from test i zero = []
places_from test i (suc n) = cond (test i) (i ∷ places_from test (suc i) n) (places_from test (suc i) n)

-- the differing places from one cell on up to another, in raster order
unfoldable pub differing : (f g : Grid) (from to : ℕ) → List ℕ
differing f g from to = places_from (differs_at f g) from (to - from)
