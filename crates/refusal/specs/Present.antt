-- What a C call passes beside a previous grid.
use Rattle.std.specs.Prelude.{ℕ, cond}
use Rattle.grid.specs.Previous.{Previous}

-- 0 for an absent one
unfoldable pub present_of : Previous → ℕ
present_of p = cond p.present 1 0
