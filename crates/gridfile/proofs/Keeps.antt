-- Writing then reading, reading then writing, and that an accepted file is the file of one grid, whose cells it hands out.
-- Assumes nothing.
use mathlib.Core.Path.{◌≡◌, sym, ap, ap₂, subst, subst₂, ◌∙◌}
use mathlib.Core.Bool.{true, cond}
use mathlib.Core.List.{List, ◌++◌}
use Prim.Native.Nat.{ℕ, ◌*◌, ◌/◌, ◌%◌, ◌≤◌, ◌<◌}
use native.Mathlib.Omega.{arith}
use borrow.Author.Tests.{le-leb, eq-eqb}
use lib.Dec.{eqb}
use lib.ListN.{length, get_or, take, drop}
use lib.Seq.{take_at}
use Rattle.motion.specs.Limits.{side_step, largest_side, cell_side}
use Rattle.motion.specs.Frame.{Side}
use Rattle.grid.specs.Grid.{Grid, Held, cells, stats_at, room}
use Rattle.refusal.specs.Refusals.{refuse, ◌then◌, side_ok}
use Rattle.refusal.proofs.RefusalLaws.{holds}
use Rattle.records.specs.Forms.{plain_forms}
use Rattle.records.specs.Records.{header_record, file_bytes}
use Rattle.gridfile.specs.declared.read.Shape.{Shape}
use Rattle.gridfile.specs.Writing.{file_of, bytes_for, write_refusal, written_of, write_answer, written_file}
use Rattle.gridfile.specs.Reading.{start, emitted, shape_of, read_answer, read_grid}
use Rattle.gridfile.specs.Keeps.{SameCells, written, ReadsBack, WriteThenRead, WritesBack, ReadThenWrite, FileOf, OneGrid, Accepted, placed, HandsOut}
use Rattle.gridfile.proofs.WriteLaws.{Writes, writes, length-file}
use Rattle.gridfile.proofs.KeptLaws.{same-room, read_lengths}
use Rattle.gridfile.proofs.FileLaws.{Shaped, file_answer, file_inside, file_past, file_emitted}
use Rattle.gridfile.proofs.ReadLaws.{ReadFile, read_file}

held-room : (width height : ℕ) (g : Grid) → Held width height g → cells width height ≤ room g
unfolding room
held-room width height g h = omega arith

-- a write that is not refused
written-file : (width height : ℕ) (g : Grid) (file : List ℕ) → write_refusal width height (room g) (length file) ≡ 0 → written_file width height g file ≡ file_of (width / cell_side) (height / cell_side) g ++ drop (bytes_for width height) file
unfolding written_file
written-file width height g file e =
    ap (λ (n : ℕ). cond (eqb n 0) (file_of (width / cell_side) (height / cell_side) g ++ drop (bytes_for width height) file) file) e

-- its answer says how many bytes
answer-bytes : (width height : ℕ) (g : Grid) (file : List ℕ) → write_refusal width height (room g) (length file) ≡ 0 → (write_answer width height g file).bytes ≡ bytes_for width height
unfolding write_answer written_of
answer-bytes width height g file e = ap (λ (n : ℕ). cond (eqb n 0) (bytes_for width height) 0) e

-- the first bytes are the grid's file
written_is : (width height : ℕ) (g : Grid) (file : List ℕ) → write_refusal width height (room g) (length file) ≡ 0 → written width height g file ≡ file_of (width / cell_side) (height / cell_side) g
unfolding cells
written_is width height g file e =
    ap (λ (n : ℕ). take n (written_file width height g file)) (answer-bytes width height g file e)
    ∙ ap (take (bytes_for width height)) (written-file width height g file e)
    ∙ take_at _ _ (bytes_for width height) (length-file (width / cell_side) (height / cell_side) g)

-- a frame's cells have even columns and rows
shaped_of : (width height : ℕ) (g : Grid) → Side width → Side height → Held width height g → Shaped (room g) (width / cell_side) (height / cell_side)
unfolding cells
shaped_of width height g wide high h =
    record {
      wide = omega (arith, wide.least);
      high = omega (arith, high.least);
      across = omega (arith, wide.whole);
      down = omega (arith, high.whole);
      inside = held-room width height g h;
    }

pub write_then_read : WriteThenRead
unfolding cells
write_then_read width height g file lent done fits lends =
    let w = writes width height g file done in
    let shaped = shaped_of width height lent w.wide w.high lends in
    let columns = width / cell_side in
    let rows = height / cell_side in
    subst (λ (l : List ℕ). ReadsBack width height g l lent) (sym (written_is width height g file done))
    (record {
      answer = file_answer columns rows g lent shaped;
      inside = file_inside columns rows g lent shaped fits;
      past = file_past columns rows g lent shaped;
    })

-- a side that the tests of writing accept
side_ok_lem : (n : ℕ) → Side n → side_ok n ≡ true
unfolding side_ok
side_ok_lem n s = rw (eq-eqb (n % side_step) 0 s.whole, le-leb side_step n s.least, le-leb n largest_side s.most)

not-refused : {width height : ℕ} {g : Grid} {file : List ℕ} → Writes width height g file → write_refusal width height (room g) (length file) ≡ 0
unfolding write_refusal refuse ◌then◌
not-refused {width} {height} {g} {file} w =
    rw (side_ok_lem width w.wide, side_ok_lem height w.high, holds w.held, le-leb _ _ w.room)

cells_of : (columns rows : ℕ) → cells (cell_side * columns) (cell_side * rows) ≡ columns * rows
unfolding cells
cells_of columns rows = ap₂ ◌*◌ (omega arith) (omega arith)

-- the file of a grid is what is written of it
module _ (file : List ℕ) (columns rows : ℕ) (g : Grid) (it : FileOf file columns rows g) (lent : List ℕ) (long : length file ≤ length lent) where
  same_bytes : bytes_for (cell_side * columns) (cell_side * rows) ≡ length file
  same_bytes = ap (file_bytes plain_forms) (cells_of columns rows) ∙ sym (length-file columns rows g) ∙ ap length it.bytes

  done : write_refusal (cell_side * columns) (cell_side * rows) (room g) (length lent) ≡ 0
  done = not-refused {file = lent} (record { wide = it.wide; high = it.high; held = it.held; room = omega (arith, same_bytes) })

  same-file : file_of (cell_side * columns / cell_side) (cell_side * rows / cell_side) g ≡ file
  same-file = ap₂ (λ (x y : ℕ). file_of x y g) (omega arith) (omega arith) ∙ it.bytes

  writes_back : WritesBack (cell_side * columns) (cell_side * rows) g file lent
  unfolding write_answer
  writes_back =
      record {
        answer = ap₂ written_of done same_bytes;
        bytes = written-file (cell_side * columns) (cell_side * rows) g lent done ∙ ap₂ (λ (l : List ℕ) (n : ℕ). l ++ drop n lent) same-file same_bytes;
      }

-- a file that is read with 0
module _ (file : List ℕ) (g : Grid) (it : ReadFile file g) where
  pub same_answer : read_answer file g ≡ shape_of 0 it.columns it.rows
  same_answer =
      subst (λ (l : List ℕ). read_answer l g ≡ shape_of 0 it.columns it.rows) it.bytes (file_answer it.columns it.rows (read_grid file g) g it.shaped)

  side : (n : ℕ) → 0 < n → n % 2 ≡ 0 → n ≤ 256 → Side (cell_side * n)
  side n some even most = record { whole = omega arith; least = omega arith; most = omega arith }

  read_is : FileOf file it.columns it.rows (read_grid file g)
  unfolding room
  read_is =
      let long = same-room (read_lengths file g) in
      let count = cells_of it.columns it.rows in
      record {
        wide = side it.columns it.shaped.wide it.shaped.across it.across;
        high = side it.rows it.shaped.high it.shaped.down it.down;
        held = record { rows = omega (arith, it.shaped.inside); cols = omega (arith, it.shaped.inside); sads = omega (arith, it.shaped.inside) };
        fits = it.fits;
        bytes = it.bytes;
      }

  -- of no other grid: the header has the columns and rows, and reading gives the cells
  module _ (columns rows : ℕ) (h : Grid) (other : FileOf file columns rows h) where
    byte_at : (k : ℕ) → get_or (file_of columns rows h) k 0 ≡ get_or (file_of it.columns it.rows (read_grid file g)) k 0
    byte_at k = ap (λ (l : List ℕ). get_or l k 0) (other.bytes ∙ sym it.bytes)

    same-columns : columns ≡ it.columns
    unfolding file_of header_record
    same-columns = omega (arith, byte_at 2, other.wide.least, it.shaped.wide)

    same_rows : rows ≡ it.rows
    unfolding file_of header_record
    same_rows = omega (arith, byte_at 3, other.high.least, it.shaped.high)

    same-cells : SameCells (it.columns * it.rows) h (read_grid file g)
    same-cells i below =
        let count : columns * rows ≡ it.columns * it.rows = ap₂ ◌*◌ same-columns same_rows in
        let shaped : Shaped (room g) columns rows = subst₂ (Shaped (room g)) (sym same-columns) (sym same_rows) it.shaped in
        sym (file_inside columns rows h g shaped other.fits i (omega arith))
        ∙ ap (λ (l : List ℕ). stats_at (read_grid l g) i) other.bytes

  only-this : OneGrid file it.columns it.rows (read_grid file g)
  only-this =
      record { one = read_is; only = λ columns rows h other. (same-columns columns rows h other, same_rows columns rows h other, same-cells columns rows h other) }

pub read_then_write : ReadThenWrite
unfolding shape_of
read_then_write file g lent of_bytes done long =
    let it = read_file file g of_bytes done in
    subst (λ (a : Shape). WritesBack (cell_side * a.columns) (cell_side * a.rows) (read_grid file g) file lent) (sym (same_answer file g it))
    (writes_back file it.columns it.rows (read_grid file g) (read_is file g it) lent long)

pub accepted : Accepted
unfolding shape_of
accepted file g of_bytes done =
    let it = read_file file g of_bytes done in
    subst (λ (a : Shape). OneGrid file a.columns a.rows (read_grid file g)) (sym (same_answer file g it)) (only-this file g it)

pub hands_out : HandsOut
unfolding shape_of
hands_out file g of_bytes done =
    let it = read_file file g of_bytes done in
    let last = read_grid file g in
    subst (λ (a : Shape). emitted (room g) start file ≡ placed last 0 (a.columns * a.rows)) (sym (same_answer file g it))
    (subst (λ (l : List ℕ). emitted (room g) start l ≡ placed last 0 (it.columns * it.rows)) it.bytes (file_emitted it.columns it.rows last g it.shaped it.fits))
