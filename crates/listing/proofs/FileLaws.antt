-- Laws of a file's records: each is a cell of its grid, and a block of them is a block of the grid. Assumes nothing.
use mathlib.Core.Path.{◌≡◌, sym, ap, ap₂, ◌∙◌}
use mathlib.Core.List.{List, ◌++◌, append_assoc}
use Prim.Native.Nat.{ℕ, zero, suc, ◌+◌, ◌-◌, ◌*◌, ◌≤◌, ◌<◌}
use native.Mathlib.Nat.{add-zero, zero-add, suc-add}
use native.Mathlib.Omega.{arith}
use lib.ListN.{length, take, drop, length-append}
use lib.Seq.{slice, take_at, drop_at}
use Rattle.ground.proofs.ListLaws.{slice_slice}
use Rattle.grid.specs.Grid.{Grid, stats_at}
use Rattle.records.specs.Forms.{byte_sides, one_sad, plain_forms, header_bytes, cell_bytes}
use Rattle.records.specs.Records.{header_record, cell_record, cell_of, file_bytes, FitsCell}
use Rattle.records.proofs.RecordLaws.{length-cell, cell-back}
use Rattle.gridfile.specs.Writing.{cell_records, file_of}
use Rattle.gridfile.specs.Keeps.{FitsCells}
use Rattle.gridfile.proofs.WriteLaws.{length-cells}
use Rattle.listing.specs.Cells.{grid_cells, record_at, file_cells}
use Rattle.listing.proofs.CellLaws.{same-cells}

-- a part between two others
middle : (a b c : List ℕ) (p n : ℕ) → length a ≡ p → length b ≡ n → slice p (p + n) (a ++ (b ++ c)) ≡ b
middle a b c p n d e =
    let long : length (a ++ b) ≡ p + n = length-append a b ∙ ap₂ (λ (x y : ℕ). x + y) d e in
    ap (drop p) (ap (take (p + n)) (sym (append_assoc a b c)) ∙ take_at (a ++ b) c (p + n) long) ∙ drop_at a b p d

-- records behind others
records_join : (g : Grid) (i n m : ℕ) → cell_records one_sad g i (n + m) ≡ cell_records one_sad g i n ++ cell_records one_sad g (i + n) m
unfolding cell_records
records_join g i zero m = rw (zero-add, add-zero)
records_join g i (suc n) m =
    let here = cell_record one_sad (stats_at g i) in
    let next : suc i + n ≡ i + suc n = omega arith in
    rw (suc-add) (ap (λ (l : List ℕ). here ++ l) (records_join g (suc i) n m ∙ ap (λ (k : ℕ). cell_records one_sad g (suc i) n ++ cell_records one_sad g k m) next) ∙ sym (append_assoc here _ _))

-- the record of a cell stands behind the header and the cells before it
record_there : (columns rows : ℕ) (g : Grid) (k : ℕ) → k < columns * rows → FitsCell (stats_at g k) → cell_of one_sad (slice (file_bytes plain_forms k) (file_bytes plain_forms k + cell_bytes) (file_of columns rows g)) ≡ stats_at g k
unfolding file_of cell_records file_bytes header_record
record_there columns rows g k inside fits =
    let m = columns * rows - suc k in
    let all : columns * rows ≡ k + suc m = omega arith in
    let front = header_record byte_sides columns rows ++ cell_records one_sad g 0 k in
    let here = cell_record one_sad (stats_at g k) in
    let back = cell_records one_sad g (suc k) m in
    let behind : cell_records one_sad g 0 (columns * rows) ≡ cell_records one_sad g 0 k ++ (here ++ back) = ap (cell_records one_sad g 0) all ∙ records_join g 0 k (suc m) ∙ ap (λ (j : ℕ). cell_records one_sad g 0 k ++ cell_records one_sad g j (suc m)) (zero-add k) in
    let parts : file_of columns rows g ≡ front ++ (here ++ back) = ap (λ (l : List ℕ). header_record byte_sides columns rows ++ l) behind ∙ sym (append_assoc (header_record byte_sides columns rows) (cell_records one_sad g 0 k) (here ++ back)) in
    let long : length front ≡ file_bytes plain_forms k = length-append (header_record byte_sides columns rows) (cell_records one_sad g 0 k) ∙ ap (λ (n : ℕ). header_bytes + n) (length-cells g 0 k) in
    ap (cell_of one_sad) (ap (slice (file_bytes plain_forms k) (file_bytes plain_forms k + cell_bytes)) parts ∙ middle front here back (file_bytes plain_forms k) cell_bytes long (length-cell (stats_at g k)))
    ∙ cell-back (stats_at g k) fits

-- a block of a file's records is that of its grid
pub file_cells_lem : (columns rows : ℕ) (g : Grid) (file : List ℕ) → file_of columns rows g ≡ file → FitsCells (columns * rows) g → (i n : ℕ) → i + n ≤ columns * rows → file_cells file i n ≡ grid_cells g i n
unfolding file_cells record_at file_bytes
file_cells_lem columns rows g file e fits i n inside =
    same-cells (record_at (slice (file_bytes plain_forms i) (file_bytes plain_forms (i + n)) file)) (stats_at g) n 0 i
    (λ k below.
    let place : file_bytes plain_forms i + cell_bytes * (0 + k) ≡ file_bytes plain_forms (i + k) = omega arith in
    let there : file_bytes plain_forms i + (cell_bytes * (0 + k) + cell_bytes) ≤ file_bytes plain_forms (i + n) = omega arith in
    ap (cell_of one_sad) (sym (slice_slice file (file_bytes plain_forms i) (file_bytes plain_forms (i + n)) (cell_bytes * (0 + k)) cell_bytes there) ∙ ap (λ (p : ℕ). slice p (p + cell_bytes) file) place ∙ ap (slice (file_bytes plain_forms (i + k)) (file_bytes plain_forms (i + k) + cell_bytes)) (sym e))
    ∙ record_there columns rows g (i + k) (omega arith) (fits (i + k) (omega arith)))
