-- What is promised of a report that is made block by block.
use Rattle.std.specs.Prelude.{◌≡◌, List, [], ◌∷◌, ◌++◌, ℕ, ◌+◌}
use Rattle.grid.specs.declared.cells.MEStats.{MEStats}
use Rattle.grid.specs.Grid.{Grid}
use Rattle.gridfile.specs.Keeps.{SameCells}
use Rattle.compare.specs.Differ.{differing}
use Rattle.listing.specs.Cells.{grid_cells, total}
use Rattle.report.specs.declared.steps.Report.{Report}
use Rattle.report.specs.Lines.{lines_of, report_of}
use Rattle.report.specs.Steps.{report_start, step_bytes, step_report, end_bytes}

-- the cells of a block, of the first grid and of the second
pub record Block : Type 0 where
  pub first : List MEStats
  pub second : List MEStats

-- a step for each block, its bytes behind those before, and then the last line
unfoldable pub in_steps : Report → List Block → List ℕ
in_steps r [] = end_bytes r
in_steps r (b ∷ blocks) = step_bytes r b.first b.second ++ in_steps (step_report r b.first b.second) blocks

-- blocks of such lengths, from a place on: `first i n` and `second i n` are the n cells from place i on
unfoldable pub cut : (first second : (i n : ℕ) → List MEStats) (i : ℕ) (lengths : List ℕ) → List Block
cut first second i [] = []
cut first second i (n ∷ lengths) = record { first = first i n; second = second i n } ∷ cut first second (i + n) lengths

-- however the cells are cut, empty blocks among them, the steps make the report: every line in its order, N and M
abbrev pub InSteps : Type 0
InSteps =
    (across : ℕ) (f g : Grid) (lengths : List ℕ) → in_steps (report_start across) (cut (grid_cells f) (grid_cells g) 0 lengths) ≡ report_of across (total lengths) f g

-- there are no cell lines exactly where the two grids have the same first n cells
abbrev pub NoLines : Type 0
NoLines =
    (across : ℕ) (f g : Grid) (n : ℕ) → (lines_of across f g (differing f g 0 n) ≡ [] → SameCells n f g) × (SameCells n f g → lines_of across f g (differing f g 0 n) ≡ [])
