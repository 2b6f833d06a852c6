-- The steps over two files, side by side, make the report of their grids. Assumes nothing.
use mathlib.Core.Path.{◌≡◌, refl, sym, ap, ap₂, ◌∙◌}
use mathlib.Core.List.{List, [], ◌∷◌}
use Prim.Native.Nat.{ℕ, ◌+◌, ◌*◌, ◌≤◌}
use native.Mathlib.Omega.{arith}
use Rattle.grid.specs.declared.cells.MEStats.{MEStats}
use Rattle.gridfile.specs.Reading.{read_answer, read_grid}
use Rattle.gridfile.proofs.Keeps.{accepted}
use Rattle.compare.proofs.Files.{first_read, second-read, one-shape}
use Rattle.listing.specs.Cells.{grid_cells, file_cells, total}
use Rattle.listing.proofs.FileLaws.{file_cells_lem}
use Rattle.report.specs.Lines.{report_of}
use Rattle.report.specs.Steps.{report_start}
use Rattle.report.specs.Blocks.{in_steps, cut}
use Rattle.report.specs.Files.{SideBySide}
use Rattle.report.proofs.Whole.{in_steps_lem}

-- blocks whose cells are equal
same_blocks : (f g f' g' : (i n : ℕ) → List MEStats) (all : ℕ) → ((i n : ℕ) → i + n ≤ all → f i n ≡ f' i n) → ((i n : ℕ) → i + n ≤ all → g i n ≡ g' i n) → (lengths : List ℕ) (i : ℕ) → i + total lengths ≤ all → cut f g i lengths ≡ cut f' g' i lengths
unfolding cut total
same_blocks f g f' g' all first second [] i h = refl
same_blocks f g f' g' all first second (n ∷ lengths) i h =
    let a = first i n (omega arith) in
    let b = second i n (omega arith) in
    let rest = same_blocks f g f' g' all first second lengths (i + n) (omega arith) in
    λ d. record { first = a d; second = b d } ∷ rest d

pub side_by_side : SideBySide
side_by_side file g other h lengths bytes other-bytes code all =
    let columns = (read_answer file g).columns in
    let cells = columns * (read_answer file g).rows in
    let one = (accepted file g bytes (first_read file g other h bytes other-bytes code)).one in
    let two = (accepted other h other-bytes (second-read file g other h bytes other-bytes code)).one in
    let shape = one-shape file g other h bytes other-bytes code in
    let same : (read_answer other h).columns * (read_answer other h).rows ≡ cells = ap₂ (λ (x y : ℕ). x * y) (sym shape.0) (sym shape.1) in
    let first = file_cells_lem columns (read_answer file g).rows (read_grid file g) file one.bytes one.fits in
    let second = file_cells_lem (read_answer other h).columns (read_answer other h).rows (read_grid other h) other two.bytes two.fits in
    ap (in_steps (report_start columns)) (same_blocks (file_cells file) (file_cells other) (grid_cells (read_grid file g)) (grid_cells (read_grid other h)) cells first (λ i n inside. second i n (omega arith)) lengths 0 (omega arith))
    ∙ in_steps_lem columns (read_grid file g) (read_grid other h) lengths
    ∙ ap (λ (n : ℕ). report_of columns n (read_grid file g) (read_grid other h)) all
