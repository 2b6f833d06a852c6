-- The numbers of document 01 that more than one rule names, each once.
use Rattle.std.specs.Prelude.{ℕ}

-- width and height: multiples of 8, from 8 to 1,024
abbrev pub side_step : ℕ
side_step = 8

abbrev pub largest_side : ℕ
largest_side = 1024

-- a cell is 4 pixels a side
abbrev pub cell_side : ℕ
cell_side = 4

-- a superblock is 64 pixels a side
abbrev pub superblock_side : ℕ
superblock_side = 64

-- a vector component stays in −16,383..16,383
abbrev pub vector_limit : ℕ
vector_limit = 16383

-- a pixel is 8 units of a vector
abbrev pub eighths : ℕ
eighths = 8

-- a sample is a number of at most 16 bits
abbrev pub largest_sample : ℕ
largest_sample = 65535
