-- Which calls the program's buffers hold.
use Rattle.std.specs.Prelude.{ℕ, ◌≤◌, ◌<◌}

-- no side is longer than 136, so no cell of a block is past the 34th; the seed is one that planes have
abbrev pub Drawable : (width height bx by seed : ℕ) → Type 0
Drawable width height bx by seed = (width ≤ 136) × (height ≤ 136) × (bx < 34) × (by < 34) × (seed < 65536)
