-- What each call answers.
use Rattle.std.specs.Prelude.{◌≡◌, ℕ, ◌≤◌, ◌<◌, Bool, not, ◌&&◌, cond, List, leb, eqb}
use Rattle.grid.specs.Grid.{Grid, room}
use Rattle.gridfile.specs.Reading.{head_cells, State, start, refused_at, taken, kept, ended}
use Rattle.held.specs.declared.state.Reader.{Reader}
use Rattle.held.specs.Held.{reader_of, state_of}

-- a grid long enough for what the header said
abbrev pub Fits : ℕ → State → Type 0
Fits space s = s.code ≡ 0 → 0 < s.head.columns → head_cells s.head ≤ space

-- 13: the grid lent is too short for what the header said, at a call after it
unfoldable pub too_short : State → Grid → Bool
too_short s g = eqb s.code 0 && (not (eqb s.head.columns 0) && not (leb (head_cells s.head) (room g)))

-- a fragment goes on where the state stands: the next state, and the grid with the cells that were taken in
unfoldable pub taken_from : State → List ℕ → Grid → State
taken_from s fragment g = cond (too_short s g) (refused_at s 13) (taken (room g) s fragment)

unfoldable pub kept_from : State → List ℕ → Grid → Grid
kept_from s fragment g = cond (too_short s g) g (kept (room g) s fragment g)

-- at the end, 11 for a file too short
unfoldable pub ended_from : State → State
ended_from s = cond (eqb (ended s) 0) s (refused_at s (ended s))

-- a new reader, one that takes a fragment, and one at the file's end
unfoldable pub new_reader : Reader
new_reader = reader_of start

unfoldable pub take_reader : Reader → List ℕ → Grid → Reader
take_reader r fragment g = reader_of (taken_from (state_of r) fragment g)

unfoldable pub take_grid : Reader → List ℕ → Grid → Grid
take_grid r fragment g = kept_from (state_of r) fragment g

unfoldable pub end_reader : Reader → Reader
end_reader r = reader_of (ended_from (state_of r))
