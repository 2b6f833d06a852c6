-- The parts of lines about cells, as bytes, and how much room a line has.
use Rattle.std.specs.Prelude.{ℕ, ◌/◌, ◌%◌, List, [], ◌∷◌, ◌++◌}
use Prim.Native.Char.{code}
use Rattle.grid.specs.declared.cells.MEStats.{MEStats}
use Rattle.text.specs.Decimal.{decimal, signed}

-- one space between
infixr 30 ◌␣◌
abbrev pub ◌␣◌ : List ℕ → List ℕ → List ℕ
a ␣ b = a ++ code " " ∷ b

-- a text and a line's end
abbrev pub line : List ℕ → List ℕ
line text = text ++ code "\n" ∷ []

-- `x y`: the column and row of a place, in a grid of so many cells across
unfoldable pub place_text : ℕ → ℕ → List ℕ
place_text across i = decimal (i % across) ␣ decimal (i / across)

-- row, col and SAD of a cell
unfoldable pub cell_text : MEStats → List ℕ
cell_text c = signed c.mv.row ␣ signed c.mv.col ␣ decimal c.normalized_sad

-- a grid of which lines are made has so many cells across at most, and so many in all
abbrev pub across_most : ℕ
across_most = 1024

abbrev pub cells_most : ℕ
cells_most = 1048576

-- room for any line: the longest, of two cells that differ, has 60 bytes
abbrev pub line_room : ℕ
line_room = 64
