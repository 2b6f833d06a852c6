-- What is promised of two files that are read side by side, in blocks of whole cell records.
use Rattle.std.specs.Prelude.{◌≡◌, List, ℕ, ◌*◌}
use Rattle.grid.specs.Grid.{Grid}
use Rattle.records.specs.Numbers.{OfBytes}
use Rattle.gridfile.specs.Reading.{read_answer, read_grid}
use Rattle.compare.specs.Files.{of_files}
use Rattle.listing.specs.Cells.{file_cells, total}
use Rattle.report.specs.Lines.{report_of}
use Rattle.report.specs.Steps.{report_start}
use Rattle.report.specs.Blocks.{in_steps, cut}

-- where neither file is refused, the steps over all their records, however cut, make the report of the two grids
abbrev pub SideBySide : Type 0
SideBySide =
    (file : List ℕ) (g : Grid) (other : List ℕ) (h : Grid) (lengths : List ℕ) →
    let columns = (read_answer file g).columns in
    let cells = columns * (read_answer file g).rows in
    OfBytes file → OfBytes other → (of_files file g other h).code ≡ 0 → total lengths ≡ cells → in_steps (report_start columns) (cut (file_cells file) (file_cells other) 0 lengths) ≡ report_of columns cells (read_grid file g) (read_grid other h)
