-- The patterns: fixed tables, in the order of source document 000, in whole pixels.
use Rattle.std.specs.Prelude.{ℕ, ◌+◌, ◌*◌, ◌/◌, ◌%◌, cond, List, [], ◌∷◌, ltb, ℤ, pos, neg_ℤ, ◌-ℤ◌, ◌*ℤ◌, get_or}
use Rattle.motion.specs.declared.vector.MotionVector.{MotionVector}
use Rattle.motion.specs.Limits.{eighths}
use Rattle.motion.specs.Vector.{zero_v, plus_v, times_v, shl_v}
use Rattle.points.specs.declared.patterns.Pattern.{Pattern}
use Rattle.points.specs.declared.patterns.Pattern.TheVariants.{Diamond, Square, RowLine, ColLine, Eighths, Umh}

-- a point so many pixels across (col) and down (row), plus (p) or minus (m)
abbrev at : ℤ → ℤ → MotionVector
at col row = record { row = pos eighths *ℤ row; col = pos eighths *ℤ col }

abbrev m : ℕ → ℤ
m n = neg_ℤ (pos n)

abbrev p : ℕ → ℤ
p n = pos n

-- diamond
abbrev pub diamond_table : List MotionVector
diamond_table = at (p 0) (p 1) ∷ at (p 1) (p 0) ∷ at (p 0) (m 1) ∷ at (m 1) (p 0) ∷ []

-- hexagon
abbrev pub hexagon_table : List MotionVector
hexagon_table =
    at (p 0) (m 2) ∷ at (p 2) (m 1) ∷ at (p 2) (p 1) ∷ at (p 0) (p 2) ∷ at (m 2) (p 1) ∷ at (m 2) (m 1) ∷ []

-- square
abbrev pub square_table : List MotionVector
square_table =
    at (m 1) (p 1) ∷ at (p 0) (p 1) ∷ at (p 1) (p 1) ∷ at (m 1) (p 0) ∷ at (p 1) (p 0)
    ∷ at (m 1) (m 1) ∷ at (p 0) (m 1) ∷ at (p 1) (m 1) ∷ []

-- the sixteen-point table; index 13 repeats index 7 (col 3, row −2), and col −3, row −2 isn't there
abbrev pub umh_table : List MotionVector
umh_table =
    at (m 2) (p 4) ∷ at (m 1) (p 4) ∷ at (p 0) (p 4) ∷ at (p 1) (p 4) ∷ at (p 2) (p 4) ∷ at (p 3) (p 2) ∷ at (p 4) (p 0)
    ∷ at (p 3) (m 2) ∷ at (p 2) (m 4) ∷ at (p 1) (m 4) ∷ at (p 0) (m 4) ∷ at (m 1) (m 4) ∷ at (m 2) (m 4) ∷ at (p 3) (m 2)
    ∷ at (m 4) (p 0) ∷ at (m 3) (p 2) ∷ []

-- rows, the negative first
abbrev pub row_table : List MotionVector
row_table = at (p 0) (m 1) ∷ at (p 0) (p 1) ∷ []

-- columns, the negative first
abbrev pub col_table : List MotionVector
col_table = at (m 1) (p 0) ∷ at (p 1) (p 0) ∷ []

-- rows and columns −2..2 in eighths, row by row, the centre skipped: 24 of the 25 places of a square
unfoldable pub eighths_place : ℕ → ℕ
eighths_place i = cond (ltb i 12) i (i + 1)

-- the offset of a pattern's point i
unfoldable pub offset : Pattern → ℕ → MotionVector
offset (Diamond r) i = shl_v (get_or diamond_table i zero_v) r
offset Square i = get_or square_table i zero_v
offset RowLine i = times_v (get_or row_table (i % 2) zero_v) (pos (i / 2 * 2 + 1))
offset ColLine i = times_v (get_or col_table (i % 2) zero_v) (pos (i / 2 * 2 + 1))
offset Eighths i = record { row = pos (eighths_place i / 5) -ℤ pos 2; col = pos (eighths_place i % 5) -ℤ pos 2 }
offset Umh i = times_v (get_or umh_table (i % 16) zero_v) (pos (i / 16 + 1))

-- how many points a pattern has: lines reach 23 rows and 11 columns, the sixteen points go times 1..6
unfoldable pub points : Pattern → ℕ
points (Diamond r) = 4
points Square = 8
points RowLine = 24
points ColLine = 12
points Eighths = 24
points Umh = 96

-- a pattern's point round a centre
unfoldable pub point_of : Pattern → MotionVector → ℕ → MotionVector
point_of p centre i = plus_v centre (offset p i)

-- a point of the hexagon round a centre
unfoldable pub hexagon_point : MotionVector → ℕ → MotionVector
hexagon_point centre i = plus_v centre (get_or hexagon_table i zero_v)
