-- What is promised of a listing that is made block by block, of a grid and of a file.
use Rattle.std.specs.Prelude.{◌≡◌, List, [], ◌∷◌, ◌++◌, ℕ, ◌+◌, ◌*◌, length}
use Rattle.grid.specs.declared.cells.MEStats.{MEStats}
use Rattle.grid.specs.Grid.{Grid}
use Rattle.records.specs.Numbers.{OfBytes}
use Rattle.gridfile.specs.Reading.{read_refusal, read_answer, read_grid}
use Rattle.listing.specs.declared.blocks.Listing.{Listing}
use Rattle.listing.specs.Lines.{heading_line, listing_of}
use Rattle.listing.specs.Cells.{grid_cells, file_cells, total}
use Rattle.listing.specs.Steps.{listing_start, step_bytes, later}

-- a step for each block, its bytes behind those before
unfoldable pub in_steps : Listing → List (List MEStats) → List ℕ
in_steps s [] = []
in_steps s (cells ∷ blocks) = step_bytes s cells ++ in_steps (later s (length cells)) blocks

-- blocks of such lengths, from a place on: `cells i n` are the n cells from place i on
unfoldable pub cut : (cells : (i n : ℕ) → List MEStats) (i : ℕ) (lengths : List ℕ) → List (List MEStats)
cut cells i [] = []
cut cells i (n ∷ lengths) = cells i n ∷ cut cells (i + n) lengths

-- however the cells are cut, empty blocks among them, the heading and the steps behind it make the listing: every line in its order
abbrev pub InSteps : Type 0
InSteps =
    (columns rows : ℕ) (g : Grid) (lengths : List ℕ) → total lengths ≡ columns * rows → heading_line columns rows ++ in_steps (listing_start columns) (cut (grid_cells g) 0 lengths) ≡ listing_of columns rows g

-- where a file is not refused, the steps over all its records, however cut, make the listing of the grid that it is read into
abbrev pub OfFile : Type 0
OfFile =
    (file : List ℕ) (g : Grid) (lengths : List ℕ) →
    let columns = (read_answer file g).columns in
    let rows = (read_answer file g).rows in
    OfBytes file → read_refusal file g ≡ 0 → total lengths ≡ columns * rows → heading_line columns rows ++ in_steps (listing_start columns) (cut (file_cells file) 0 lengths) ≡ listing_of columns rows (read_grid file g)
