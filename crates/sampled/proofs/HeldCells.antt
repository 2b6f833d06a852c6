-- Each cell that a block samples is below the length of each buffer of a grid that holds the frame's cells. Assumes nothing.
use Rattle.std.proofs.Common.{ℕ, ◌<◌, true, length, All}
use Rattle.std.proofs.lemmas.List.Elements.{All-from_get_or}
use Rattle.motion.specs.Level.{level_of}
use Rattle.motion.specs.Frame.{Placed}
use Rattle.grid.specs.Grid.{Grid, Held}
use Rattle.grid.proofs.CellLaws.{reached}
use Rattle.sampled.specs.Sampled.{cells_b, cells_c}
use Rattle.sampled.proofs.InsideLaws.{b-inside, c_inside}

-- a cell is below the length of each buffer
abbrev pub Reaches : Grid → ℕ → Type 0
Reaches g i = (i < length g.rows) × (i < length g.cols) × (i < length g.sads)

module _ (width height level bx by : ℕ) (placed : Placed width height (level_of level) (level_of level).mv_size bx by) (g : Grid) (held : Held width height g) where
  pub b-held : All (Reaches g) (cells_b width height level bx by)
  b-held = All-from_get_or (Reaches g) _ 0 (λ k h. reached held (b-inside width height level bx by placed k h))

  -- where a previous grid is present
  pub c_held : All (Reaches g) (cells_c width height level bx by true)
  c_held = All-from_get_or (Reaches g) _ 0 (λ k h. reached held (c_inside width height level bx by placed true k h))
