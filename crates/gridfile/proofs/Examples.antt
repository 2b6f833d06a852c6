-- The file of the flat frame of 8 by 8, byte by byte, written and read. Assumes nothing.
use mathlib.Core.Path.{◌≡◌, refl}
use mathlib.Core.List.{List, [], ◌∷◌}
use Prim.Native.Nat.{ℕ}
use lib.IntN.{ℤ, pos, neg_ℤ}
use Rattle.grid.specs.Grid.{Grid, grid_of, stored_at, stats_at, with_cell, room}
use Rattle.refusal.specs.Refusals.{refuse, ◌then◌}
use Rattle.records.specs.Numbers.{bytes_of, number_of}
use Rattle.records.specs.Records.{header_record, cell_record, cell_of}
use Rattle.gridfile.specs.Writing.{cell_records, file_of}
use Rattle.gridfile.specs.Reading.{begun, marked, header_end, header_done, cell_done, record_byte, header_byte, cell_byte, next, taken, handed, emitted, with_placed, kept, whole, ended, read_refusal, shape_of, read_answer, read_grid}

-- two cells across and two down, each with row −24, col −24 and SAD 0
abbrev components : List ℤ
components = neg_ℤ (pos 24) ∷ neg_ℤ (pos 24) ∷ neg_ℤ (pos 24) ∷ neg_ℤ (pos 24) ∷ []

abbrev flat : Grid
flat = grid_of components components (0 ∷ 0 ∷ 0 ∷ 0 ∷ [])

-- its 44 bytes: the header, and a record for each cell
abbrev flat_file : List ℕ
flat_file =
    0x4C ∷ 0x47 ∷ 0x01 ∷ 0x01 ∷
    0x4C ∷ 0x47 ∷ 0xE8 ∷ 0xFF ∷ 0xE8 ∷ 0xFF ∷ 0x00 ∷ 0x00 ∷ 0x00 ∷ 0x00 ∷
    0x4C ∷ 0x47 ∷ 0xE8 ∷ 0xFF ∷ 0xE8 ∷ 0xFF ∷ 0x00 ∷ 0x00 ∷ 0x00 ∷ 0x00 ∷
    0x4C ∷ 0x47 ∷ 0xE8 ∷ 0xFF ∷ 0xE8 ∷ 0xFF ∷ 0x00 ∷ 0x00 ∷ 0x00 ∷ 0x00 ∷
    0x4C ∷ 0x47 ∷ 0xE8 ∷ 0xFF ∷ 0xE8 ∷ 0xFF ∷ 0x00 ∷ 0x00 ∷ 0x00 ∷ 0x00 ∷ []

pub flat_written : file_of 2 2 flat ≡ flat_file
unfolding file_of header_record cell_records cell_record bytes_of stats_at stored_at
flat_written = refl

-- another grid of four cells
abbrev lent : Grid
lent = grid_of (pos 1 ∷ pos 2 ∷ pos 3 ∷ pos 4 ∷ []) (pos 5 ∷ pos 6 ∷ pos 7 ∷ pos 8 ∷ []) (9 ∷ 10 ∷ 11 ∷ 12 ∷ [])

pub flat_answer : read_answer flat_file lent ≡ record { code = 0; columns = 2; rows = 2 }
unfolding read_answer read_refusal shape_of room taken next header_byte cell_byte record_byte begun marked header_done header_end cell_done whole ended refuse ◌then◌
flat_answer = refl

pub flat_read : read_grid flat_file lent ≡ flat
unfolding read_grid read_refusal room kept emitted handed with_placed taken next header_byte cell_byte record_byte begun marked header_done header_end cell_done whole ended refuse ◌then◌ with_cell cell_of number_of
flat_read = refl
