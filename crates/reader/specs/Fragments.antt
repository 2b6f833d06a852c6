-- However a file is cut, the cells, the final state and the refusal are those of one fragment.
use Rattle.std.specs.Prelude.{◌≡◌, Bool, ◌&&◌, cond, List, [], ◌∷◌, ◌++◌, ℕ, zero, suc, ◌+◌, ◌≤◌, ◌<◌, leb, eqb, length, get_or, take}
use Rattle.std.proofs.Math.Seq.{slice}
use Rattle.grid.specs.declared.cells.MEStats.{MEStats}
use Rattle.grid.specs.Grid.{Grid, stats_at, room}
use Rattle.records.specs.Forms.{Forms, cell_mark, header_size}
use Rattle.records.specs.Records.{cell_of, file_bytes}
use Rattle.records.specs.Numbers.{OfBytes}
use Rattle.gridfile.specs.Reading.{head_cells, start, header_shown, marked, taken, read_refusal, read_answer, read_grid}
use Rattle.held.specs.declared.state.Reader.{Reader}
use Rattle.reader.specs.Calls.{new_reader, take_reader, take_grid, end_reader}

-- a call for each fragment, in turn: the last state, and the grid
unfoldable pub take_all : Reader → List (List ℕ) → Grid → Reader
take_all r [] g = r
take_all r (f ∷ fs) g = take_all (take_reader r f g) fs (take_grid r f g)

unfoldable pub grid_all : Reader → List (List ℕ) → Grid → Grid
grid_all r [] g = g
grid_all r (f ∷ fs) g = grid_all (take_reader r f g) fs (take_grid r f g)

-- the fragments behind one another
unfoldable pub joined : List (List ℕ) → List ℕ
joined [] = []
joined (f ∷ fs) = f ++ joined fs

-- from any state, for every list of fragments, empty ones among them: one call or more are one call
abbrev pub AnyCuts : Type 0
AnyCuts =
    (r : Reader) (f : List ℕ) (fs : List (List ℕ)) (g : Grid) → OfBytes r.part → OfBytes (joined (f ∷ fs)) → (take_all r (f ∷ fs) g ≡ take_reader r (joined (f ∷ fs)) g) × (grid_all r (f ∷ fs) g ≡ take_grid r (joined (f ∷ fs)) g)

-- after a refusal further calls change nothing and repeat it
pub record Stays (r : Reader) : Type 0 where
  pub take : (f : List ℕ) (g : Grid) → take_reader r f g ≡ r
  pub grid : (f : List ℕ) (g : Grid) → take_grid r f g ≡ g
  pub end : end_reader r ≡ r

abbrev pub RefusalStays : Type 0
RefusalStays =
    ((r : Reader) (f : List ℕ) (g : Grid) → ((take_reader r f g).code ≡ 0 → ⊥) → Stays (take_reader r f g)) × ((r : Reader) → ((end_reader r).code ≡ 0 → ⊥) → Stays (end_reader r))

-- a whole file and the end call: the refusal is that of reading in one piece; where it is 0, so are the shape and the grid
pub record AsOne (file : List ℕ) (g : Grid) : Type 0 where
  pub number : (end_reader (take_reader new_reader file g)).code ≡ read_refusal file g
  pub columns : read_refusal file g ≡ 0 → (end_reader (take_reader new_reader file g)).columns ≡ (read_answer file g).columns
  pub rows : read_refusal file g ≡ 0 → (end_reader (take_reader new_reader file g)).rows ≡ (read_answer file g).rows
  pub grid : read_refusal file g ≡ 0 → take_grid new_reader file g ≡ read_grid file g

-- the forms of a file's records
abbrev pub forms_in : List ℕ → Grid → Forms
forms_in file g = (taken (room g) start file).head.forms

-- the record of cell i is good: it is complete and starts with the mark
unfoldable pub good_record : Forms → List ℕ → ℕ → Bool
good_record forms file i =
    let mark = cell_mark forms.cell in
    let at = file_bytes forms i in
    leb (file_bytes forms (suc i)) (length file) && (marked mark 0 (get_or file at 0) && marked mark 1 (get_or file (at + 1) 0))

-- of n cells from i on, those whose records are good, up to the first whose record is not
unfoldable pub good_from : Forms → List ℕ → (i n : ℕ) → ℕ
good_from forms file i zero = 0
good_from forms file i (suc n) = cond (good_record forms file i) (suc (good_from forms file (suc i) n)) 0

-- of all cells that the header says: none where it is refused, or cut so that it says none
unfoldable pub good_count : List ℕ → Grid → ℕ
good_count file g =
    let header = taken (room g) start (take (header_size (header_shown file)) file) in
    cond (eqb header.code 0) (good_from (forms_in file g) file 0 (head_cells header.head)) 0

-- the cell that a file's record i holds
unfoldable pub cell_in : Forms → List ℕ → ℕ → MEStats
cell_in forms file i = cell_of forms.cell (slice (file_bytes forms i) (file_bytes forms (suc i)) file)

-- and of any file: the count is that of its good records, the cells counted hold them, and no other cell is written
pub record GoodOnes (file : List ℕ) (g : Grid) (count : ℕ) (h : Grid) : Type 0 where
  pub number : count ≡ good_count file g
  pub inside : (i : ℕ) → i < count → stats_at h i ≡ cell_in (forms_in file g) file i
  pub past : (i : ℕ) → count ≤ i → stats_at h i ≡ stats_at g i

abbrev pub WholeFile : Type 0
WholeFile =
    (file : List ℕ) (g : Grid) → OfBytes file → AsOne file g × GoodOnes file g (take_reader new_reader file g).cells (take_grid new_reader file g)
