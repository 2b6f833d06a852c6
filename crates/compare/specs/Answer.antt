-- What the comparison of two grids answers.
use Rattle.std.specs.Prelude.{ℕ, ◌*◌, ◌&&◌, cond, leb, eqb, length, get_or}
use Rattle.grid.specs.Grid.{Grid, room}
use Rattle.refusal.specs.Refusals.{refuse, ◌then◌}
use Rattle.gridfile.specs.declared.read.Shape.{Shape}
use Rattle.compare.specs.declared.calls.Comparison.{Comparison}
use Rattle.compare.specs.declared.calls.Place.{Place}
use Rattle.compare.specs.Differ.{differing}

-- the first file's refusal, then the second's; 14 unequal shapes; 13 a lent buffer too short, the first grid's or the second's
unfoldable pub compare_refusal : (first : Shape) (first_room : ℕ) (second : Shape) (second_room : ℕ) → ℕ
compare_refusal first first_room second second_room =
    first.code
    then second.code
    then refuse 14 (eqb first.columns second.columns && eqb first.rows second.rows)
    then refuse 13 (leb (first.columns * first.rows) first_room)
    then refuse 13 (leb (first.columns * first.rows) second_room)

-- the refusal, how many places differ, and the first of them: 0 in a refusal
unfoldable pub comparison_of : (number count first : ℕ) → Comparison
comparison_of number count first =
    record { code = number; count = cond (eqb number 0) count 0; first = cond (eqb number 0) first 0 }

-- the places from a cell on; where there is none, the first is the number of cells
unfoldable pub compare_answer : (first : Shape) (f : Grid) (second : Shape) (g : Grid) (from : ℕ) → Comparison
compare_answer first f second g from =
    let cells = first.columns * first.rows in
    let places = differing f g from cells in
    comparison_of (compare_refusal first (room f) second (room g)) (length places) (get_or places 0 cells)

-- the refusal, and the first of these places alone
unfoldable pub next_answer : (first : Shape) (f : Grid) (second : Shape) (g : Grid) (from : ℕ) → Place
next_answer first f second g from =
    let whole = compare_answer first f second g from in
    record { code = whole.code; place = whole.first }
