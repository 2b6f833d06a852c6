-- A listing made step by step: each step has the cells of a block, and what came before.
use Rattle.std.specs.Prelude.{ℕ, ◌+◌, ◌≤◌, ◌<◌, List}
use Rattle.grid.specs.declared.cells.MEStats.{MEStats}
use Rattle.listing.specs.declared.blocks.Listing.{Listing}
use Rattle.listing.specs.Parts.{across_most, cells_most}
use Rattle.listing.specs.Lines.{listed_lines}

-- before the first step no cell has gone by
abbrev pub listing_start : (across : ℕ) → Listing
listing_start across = record { across = across; next = 0 }

-- a step puts the lines of its block behind what came before
abbrev pub step_bytes : (s : Listing) (cells : List MEStats) → List ℕ
step_bytes s cells = listed_lines s.across s.next cells

-- and is then past so many cells
abbrev pub later : (s : Listing) (n : ℕ) → Listing
later s n = record { across = s.across; next = s.next + n }

-- so many cells more can go by
pub record Open (s : Listing) (n : ℕ) : Type 0 where
  pub some : 0 < s.across
  pub wide : s.across ≤ across_most
  pub cells : s.next + n ≤ cells_most
