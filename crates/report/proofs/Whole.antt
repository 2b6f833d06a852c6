-- A report made block by block is the report, and it has no cell lines exactly where the grids are equal. Assumes nothing.
use mathlib.Core.Path.{◌≡◌, refl, sym, ap, ap₂, ◌∙◌}
use mathlib.Core.List.{List, [], ◌∷◌, ◌++◌, append_assoc}
use Prim.Native.Nat.{ℕ, ◌+◌, ◌-◌}
use native.Mathlib.Omega.{arith}
use lib.ListN.{length, length-append}
use Rattle.grid.specs.declared.cells.MEStats.{MEStats}
use Rattle.grid.specs.Grid.{Grid, stats_at}
use Rattle.compare.specs.Differ.{differs_at, places_from, differing}
use Rattle.compare.proofs.Places.{none_differ}
use Rattle.listing.specs.Cells.{cells_from, grid_cells, total}
use Rattle.listing.proofs.CellLaws.{cells-length, cells-join}
use Rattle.report.specs.declared.steps.Report.{Report}
use Rattle.report.specs.Lines.{cell_line, lines_of, last_line, report_of}
use Rattle.report.specs.Steps.{report_start, step_lines, step_count, step_bytes, step_report, end_bytes}
use Rattle.report.specs.Blocks.{in_steps, cut, InSteps, NoLines}
use Rattle.report.proofs.StepLaws.{bytes-joined, report_joined, grid-lines, grid-count}

-- the bytes of one step alone, and the last line
abbrev alone : (r : Report) (fs gs : List MEStats) → List ℕ
alone r fs gs = step_bytes r fs gs ++ end_bytes (step_report r fs gs)

alone_joined : (r : Report) (fs gs fs' gs' : List MEStats) → length fs ≡ length gs → alone r (fs ++ fs') (gs ++ gs') ≡ step_bytes r fs gs ++ alone (step_report r fs gs) fs' gs'
alone_joined r fs gs fs' gs' e =
    rw (bytes-joined r fs gs fs' gs' e, report_joined r fs gs fs' gs' e, append_assoc)

module _ (f g : Grid) where
  -- a block in front of another
  one_more : (r : Report) (i n m : ℕ) → alone r (grid_cells f i (n + m)) (grid_cells g i (n + m)) ≡ step_bytes r (grid_cells f i n) (grid_cells g i n) ++ alone (step_report r (grid_cells f i n) (grid_cells g i n)) (grid_cells f (i + n) m) (grid_cells g (i + n) m)
  one_more r i n m =
      let even = cells-length (stats_at f) i n ∙ sym (cells-length (stats_at g) i n) in
      rw (cells-join (stats_at f) i n m, cells-join (stats_at g) i n m)
      (alone_joined r (grid_cells f i n) (grid_cells g i n) (grid_cells f (i + n) m) (grid_cells g (i + n) m) even)

  steps_as_one : (lengths : List ℕ) (r : Report) (i : ℕ) → r.next ≡ i → in_steps r (cut (grid_cells f) (grid_cells g) i lengths) ≡ alone r (grid_cells f i (total lengths)) (grid_cells g i (total lengths))
  unfolding in_steps cut total step_report step_lines step_count cells_from
  steps_as_one [] r i e = ap₂ last_line (omega arith) (omega arith)
  steps_as_one (n ∷ lengths) r i e =
      let next = step_report r (grid_cells f i n) (grid_cells g i n) in
      ap (λ (l : List ℕ). step_bytes r (grid_cells f i n) (grid_cells g i n) ++ l) (steps_as_one lengths next (i + n) (omega (arith, cells-length (stats_at f) i n)))
      ∙ sym (one_more r i n (total lengths))

pub in_steps_lem : InSteps
unfolding report_of differing step_report
in_steps_lem across f g lengths =
    let n = total lengths in
    let all : n - 0 ≡ n = omega arith in
    let places = places_from (differs_at f g) 0 n in
    let differ : 0 + step_count (grid_cells f 0 n) (grid_cells g 0 n) ≡ length places = omega (arith, grid-count f g 0 n) in
    let cells : 0 + length (grid_cells f 0 n) ≡ n = omega (arith, cells-length (stats_at f) 0 n) in
    steps_as_one f g lengths (report_start across) 0 refl
    ∙ ap₂ (λ (l m : List ℕ). l ++ m) (grid-lines across f g 0 n) (ap₂ last_line differ cells)
    ∙ ap (λ (k : ℕ). lines_of across f g (places_from (differs_at f g) 0 k) ++ last_line (length (places_from (differs_at f g) 0 k)) n) (sym all)

-- a cell line has bytes, so that no lines are of no places
no_places : (across : ℕ) (f g : Grid) (places : List ℕ) → lines_of across f g places ≡ [] → length places ≡ 0
unfolding lines_of cell_line
no_places across f g [] e = refl
no_places across f g (i ∷ places) e = absurd (omega (arith, simp length-append at (ap length e)))

lines_of_none : (across : ℕ) (f g : Grid) (places : List ℕ) → length places ≡ 0 → lines_of across f g places ≡ []
unfolding lines_of
lines_of_none across f g [] e = refl
lines_of_none across f g (i ∷ places) e = absurd (omega arith)

pub no_cell_lines : NoLines
no_cell_lines across f g n =
    let places = differing f g 0 n in
    (λ none. (none_differ f g n).0 (no_places across f g places none), λ equal. lines_of_none across f g places ((none_differ f g n).1 equal))
