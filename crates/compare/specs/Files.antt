-- What is promised of two files whose grids are compared.
use Rattle.std.specs.Prelude.{◌≡◌, List, ℕ}
use Rattle.grid.specs.Grid.{Grid}
use Rattle.records.specs.Numbers.{OfBytes}
use Rattle.gridfile.specs.Reading.{read_answer, read_grid}
use Rattle.compare.specs.declared.calls.Comparison.{Comparison}
use Rattle.compare.specs.Answer.{compare_answer}

-- each file is read into the grid that is lent for it, and all their cells are compared
abbrev pub of_files : (file : List ℕ) (g : Grid) (other : List ℕ) (h : Grid) → Comparison
of_files file g other h = compare_answer (read_answer file g) (read_grid file g) (read_answer other h) (read_grid other h) 0

-- where neither is refused, no cell differs exactly where the two files are the same bytes
abbrev pub SameFiles : Type 0
SameFiles =
    (file : List ℕ) (g : Grid) (other : List ℕ) (h : Grid) → OfBytes file → OfBytes other → (of_files file g other h).code ≡ 0 → ((of_files file g other h).count ≡ 0 → file ≡ other) × (file ≡ other → (of_files file g other h).count ≡ 0)
