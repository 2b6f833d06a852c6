-- A listing made block by block is the listing, of a grid and of a file. Assumes nothing.
use mathlib.Core.Path.{◌≡◌, refl, sym, ap, ap₂, ◌∙◌}
use mathlib.Core.List.{List, [], ◌∷◌, ◌++◌}
use Prim.Native.Nat.{ℕ, ◌+◌, ◌*◌, ◌≤◌}
use native.Mathlib.Omega.{arith}
use lib.ListN.{length}
use Rattle.grid.specs.declared.cells.MEStats.{MEStats}
use Rattle.grid.specs.Grid.{stats_at}
use Rattle.gridfile.specs.Reading.{read_answer, read_grid}
use Rattle.gridfile.proofs.Keeps.{accepted}
use Rattle.listing.specs.declared.blocks.Listing.{Listing}
use Rattle.listing.specs.Lines.{heading_line, listed_lines, listing_of}
use Rattle.listing.specs.Cells.{cells_from, grid_cells, file_cells, total}
use Rattle.listing.specs.Steps.{listing_start, step_bytes, later}
use Rattle.listing.specs.Blocks.{in_steps, cut, InSteps, OfFile}
use Rattle.listing.proofs.CellLaws.{cells-length, cells-join}
use Rattle.listing.proofs.ListedLaws.{lines_joined}
use Rattle.listing.proofs.FileLaws.{file_cells_lem}

module _ (cell : ℕ → MEStats) where
  -- a block in front of another
  one_more : (s : Listing) (i n m : ℕ) → step_bytes s (cells_from cell i (n + m)) ≡ step_bytes s (cells_from cell i n) ++ step_bytes (later s (length (cells_from cell i n))) (cells_from cell (i + n) m)
  one_more s i n m =
      ap (step_bytes s) (cells-join cell i n m) ∙ lines_joined s.across s.next (cells_from cell i n) (cells_from cell (i + n) m)

  steps_as_one : (lengths : List ℕ) (s : Listing) (i : ℕ) → s.next ≡ i → in_steps s (cut (cells_from cell) i lengths) ≡ step_bytes s (cells_from cell i (total lengths))
  unfolding in_steps cut total listed_lines cells_from
  steps_as_one [] s i e = refl
  steps_as_one (n ∷ lengths) s i e =
      let block = cells_from cell i n in
      ap (λ (l : List ℕ). step_bytes s block ++ l) (steps_as_one lengths (later s (length block)) (i + n) (omega (arith, cells-length cell i n)))
      ∙ sym (one_more s i n (total lengths))

pub in_steps_lem : InSteps
unfolding listing_of
in_steps_lem columns rows g lengths all =
    ap (λ (l : List ℕ). heading_line columns rows ++ l)
    (steps_as_one (stats_at g) lengths (listing_start columns) 0 refl ∙ ap (λ (n : ℕ). listed_lines columns 0 (grid_cells g 0 n)) all)

-- blocks whose cells are equal
same_blocks : (f g : (i n : ℕ) → List MEStats) (all : ℕ) → ((i n : ℕ) → i + n ≤ all → f i n ≡ g i n) → (lengths : List ℕ) (i : ℕ) → i + total lengths ≤ all → cut f i lengths ≡ cut g i lengths
unfolding cut total
same_blocks f g all same [] i h = refl
same_blocks f g all same (n ∷ lengths) i h =
    ap₂ (λ (cells : List MEStats) (blocks : List (List MEStats)). cells ∷ blocks) (same i n (omega arith)) (same_blocks f g all same lengths (i + n) (omega arith))

pub of-file : OfFile
of-file file g lengths bytes read all =
    let columns = (read_answer file g).columns in
    let rows = (read_answer file g).rows in
    let one = (accepted file g bytes read).one in
    let same = file_cells_lem columns rows (read_grid file g) file one.bytes one.fits in
    ap (λ (blocks : List (List MEStats)). heading_line columns rows ++ in_steps (listing_start columns) blocks)
    (same_blocks (file_cells file) (grid_cells (read_grid file g)) (columns * rows) same lengths 0 (omega arith))
    ∙ in_steps_lem columns rows (read_grid file g) lengths all
