-- What a block, a step and a level work with besides the grid.
use Rattle.std.specs.Prelude.{cond, List, ℕ, eqb}

-- the frame, the level, the current and the reference plane of that level, and the weight
pub record Inputs : Type 0 where
  pub width : ℕ
  pub height : ℕ
  pub level : ℕ
  pub cur : List ℕ
  pub ref : List ℕ
  pub weight : ℕ

abbrev pub inputs_of : (width height level : ℕ) (cur ref : List ℕ) (weight : ℕ) → Inputs
inputs_of width height level cur ref weight =
    record { width = width; height = height; level = level; cur = cur; ref = ref; weight = weight }

-- six planes are lent: current and reference at full, half and quarter size
pub record Planes : Type 0 where
  pub full : List ℕ
  pub half : List ℕ
  pub quarter : List ℕ

abbrev pub planes_of : List ℕ → List ℕ → List ℕ → Planes
planes_of full half quarter = record { full = full; half = half; quarter = quarter }

-- the plane of a level
unfoldable pub plane_at : Planes → ℕ → List ℕ
plane_at p level = cond (eqb level 4) p.quarter (cond (eqb level 3) p.half p.full)
