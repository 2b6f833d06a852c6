-- A previous frame's grid, or its absence.
use Rattle.std.specs.Prelude.{◌≡◌, Bool, true, not, ℕ, eqb}
use Rattle.grid.specs.Grid.{Grid, Held}

-- a previous frame's grid, or its absence
pub record Previous : Type 0 where
  pub present : Bool
  pub grid : Grid

abbrev pub previous_of : Bool → Grid → Previous
previous_of present grid = record { present = present; grid = grid }

-- a previous grid that is said to be present holds the frame's cells
abbrev pub HeldIf : ℕ → ℕ → Previous → Type 0
HeldIf width height p = p.present ≡ true → Held width height p.grid

-- the previous grid that a call means; `present` is 0 for an absent one
unfoldable pub previous : ℕ → Grid → Previous
previous present prev = previous_of (not (eqb present 0)) prev
