-- A report made step by step: each step has the cells of a block of both grids, and what came before.
use Rattle.std.specs.Prelude.{ℕ, suc, ◌+◌, ◌≤◌, ◌<◌, ◌≡◌, cond, List, [], ◌∷◌, ◌++◌, length}
use Rattle.grid.specs.declared.cells.MEStats.{MEStats}
use Rattle.compare.specs.Differ.{same_cell}
use Rattle.listing.specs.Parts.{across_most, cells_most}
use Rattle.report.specs.declared.steps.Report.{Report}
use Rattle.report.specs.Lines.{cell_line, last_line}

-- of the cells of two blocks, from a place on, the lines of those that differ
unfoldable pub step_lines : (across i : ℕ) (fs gs : List MEStats) → List ℕ
step_lines across i [] gs = []
step_lines across i (a ∷ fs) [] = []
step_lines across i (a ∷ fs) (b ∷ gs) =
    cond (same_cell a b) [] (cell_line across i a b) ++ step_lines across (suc i) fs gs

-- and how many differ
unfoldable pub step_count : (fs gs : List MEStats) → ℕ
step_count [] gs = 0
step_count (a ∷ fs) [] = 0
step_count (a ∷ fs) (b ∷ gs) = cond (same_cell a b) 0 1 + step_count fs gs

-- before the first step no cell has gone by, and none has differed
abbrev pub report_start : (across : ℕ) → Report
report_start across = record { across = across; next = 0; differ = 0 }

-- a step puts the lines of its block behind what came before
abbrev pub step_bytes : (r : Report) (fs gs : List MEStats) → List ℕ
step_bytes r fs gs = step_lines r.across r.next fs gs

-- and is then past the block's cells, with those that differ counted
unfoldable pub step_report : (r : Report) (fs gs : List MEStats) → Report
step_report r fs gs =
    record { across = r.across; next = r.next + length fs; differ = r.differ + step_count fs gs }

-- the last line: so many of the cells that went by differ
abbrev pub end_bytes : Report → List ℕ
end_bytes r = last_line r.differ r.next

-- so many cells more can go by
pub record Open (r : Report) (n : ℕ) : Type 0 where
  pub some : 0 < r.across
  pub wide : r.across ≤ across_most
  pub cells : r.next + n ≤ cells_most
  pub counted : r.differ ≤ r.next

-- so many cells went by
pub record Passed (r : Report) (n : ℕ) (later : Report) : Type 0 where
  pub across : later.across ≡ r.across
  pub next : later.next ≡ r.next + n
  pub counted : later.differ ≤ later.next
