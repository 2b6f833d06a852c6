-- The grid that three lent buffers hold, and a previous one, lent or absent.
use Rattle.std.specs.Prelude.{◌≡◌, true, false, [], length, Option, None, Some}
use Rattle.grid.specs.declared.lent.GridRef.{GridRef}
use Rattle.grid.specs.declared.lent.GridMut.{GridMut}
use Rattle.grid.specs.Grid.{Grid, grid_of}
use Rattle.grid.specs.Previous.{Previous, previous_of}

-- lent to be read
abbrev pub lent : GridRef → Grid
lent g = grid_of g.rows.now g.cols.now g.sads.now

-- lent to be written
abbrev pub lent_mut : GridMut → Grid
lent_mut g = grid_of g.rows.now g.cols.now g.sads.now

-- the same three buffers, as long as they were
pub record SameBuffers (old new : GridMut) : Type 0 where
  pub rows : new.rows.ghost_name ≡ old.rows.ghost_name
  pub cols : new.cols.ghost_name ≡ old.cols.ghost_name
  pub sads : new.sads.ghost_name ≡ old.sads.ghost_name
  pub rows_length : length new.rows.now ≡ length old.rows.now
  pub cols_length : length new.cols.now ≡ length old.cols.now
  pub sads_length : length new.sads.now ≡ length old.sads.now

-- a previous frame's grid, lent to be read, or its absence
abbrev pub previous_lent : Option GridRef → Previous
previous_lent None = previous_of false (grid_of [] [] [])
previous_lent (Some g) = previous_of true (lent g)

-- both absent, or both present with the same grid
pub record SamePrevious (p q : Previous) : Type 0 where
  pub present : p.present ≡ q.present
  pub grid : p.present ≡ true → p.grid ≡ q.grid
