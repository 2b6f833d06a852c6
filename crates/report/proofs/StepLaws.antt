-- Laws of steps: blocks behind one another are one block, and a block of two grids has the lines of its differing places.
-- Assumes nothing.
use mathlib.Core.Path.{◌≡◌, refl, sym, ap, ◌∙◌}
use mathlib.Core.Bool.{Bool, true, false, not, cond}
use mathlib.Core.List.{List, [], ◌∷◌, ◌++◌, append_assoc, append-nil}
use Prim.Native.Nat.{ℕ, zero, suc, ◌+◌, ◌≤◌}
use native.Mathlib.Nat.{add-zero}
use native.Mathlib.Omega.{arith}
use lib.ListN.{length, length-append}
use Rattle.grid.specs.declared.cells.MEStats.{MEStats}
use Rattle.grid.specs.Grid.{Grid, stats_at}
use Rattle.compare.specs.Differ.{same_cell, differs_at, places_from}
use Rattle.listing.specs.Cells.{cells_from, grid_cells}
use Rattle.listing.proofs.CellLaws.{cells-length, cells-more}
use Rattle.report.specs.declared.steps.Report.{Report}
use Rattle.report.specs.Lines.{cell_line, lines_of}
use Rattle.report.specs.Steps.{Passed, step_lines, step_count, step_bytes, step_report}

-- the lines of cells behind others, and their count
lines_joined : (across i : ℕ) (fs gs fs' gs' : List MEStats) → length fs ≡ length gs → step_lines across i (fs ++ fs') (gs ++ gs') ≡ step_lines across i fs gs ++ step_lines across (i + length fs) fs' gs'
unfolding step_lines
lines_joined across i [] [] fs' gs' e = rw add-zero
lines_joined across i [] (b ∷ gs) fs' gs' e = absurd (omega arith)
lines_joined across i (a ∷ fs) [] fs' gs' e = absurd (omega arith)
lines_joined across i (a ∷ fs) (b ∷ gs) fs' gs' e =
    let here = cond (same_cell a b) [] (cell_line across i a b) in
    let next : suc i + length fs ≡ i + suc (length fs) = omega arith in
    ap (λ (l : List ℕ). here ++ l) (lines_joined across (suc i) fs gs fs' gs' (omega arith) ∙ ap (λ (k : ℕ). step_lines across (suc i) fs gs ++ step_lines across k fs' gs') next)
    ∙ sym (append_assoc here _ _)

count_joined : (fs gs fs' gs' : List MEStats) → length fs ≡ length gs → step_count (fs ++ fs') (gs ++ gs') ≡ step_count fs gs + step_count fs' gs'
unfolding step_count
count_joined [] [] fs' gs' e = omega arith
count_joined [] (b ∷ gs) fs' gs' e = absurd (omega arith)
count_joined (a ∷ fs) [] fs' gs' e = absurd (omega arith)
count_joined (a ∷ fs) (b ∷ gs) fs' gs' e = omega (arith, count_joined fs gs fs' gs' (omega arith))

-- no more differ than there are
one-most : (t : Bool) → cond t 0 1 ≤ 1
one-most true = omega arith
one-most false = omega arith

pub count_most : (fs gs : List MEStats) → step_count fs gs ≤ length fs
unfolding step_count
count_most [] gs = omega arith
count_most (a ∷ fs) [] = omega arith
count_most (a ∷ fs) (b ∷ gs) = omega (arith, one-most (same_cell a b), count_most fs gs)

-- a step over two blocks is a step over each
module _ (r : Report) (fs gs fs' gs' : List MEStats) (e : length fs ≡ length gs) where
  pub bytes-joined : step_bytes r (fs ++ fs') (gs ++ gs') ≡ step_bytes r fs gs ++ step_bytes (step_report r fs gs) fs' gs'
  unfolding step_report
  bytes-joined = lines_joined r.across r.next fs gs fs' gs' e

  pub report_joined : step_report r (fs ++ fs') (gs ++ gs') ≡ step_report (step_report r fs gs) fs' gs'
  unfolding step_report
  report_joined =
      let next : r.next + length (fs ++ fs') ≡ r.next + length fs + length fs' = omega (arith, length-append fs fs') in
      let differ : r.differ + step_count (fs ++ fs') (gs ++ gs') ≡ r.differ + step_count fs gs + step_count fs' gs' = omega (arith, count_joined fs gs fs' gs' e) in
      λ i. record { across = r.across; next = next i; differ = differ i }

-- a place in front of others, where its cells differ
led_lines : (across : ℕ) (f g : Grid) (t : Bool) (i : ℕ) (places : List ℕ) → cond t [] (cell_line across i (stats_at f i) (stats_at g i)) ++ lines_of across f g places ≡ lines_of across f g (cond (not t) (i ∷ places) places)
unfolding lines_of
led_lines across f g true i places = refl
led_lines across f g false i places = refl

led_count : (t : Bool) (i : ℕ) (places : List ℕ) → cond t 0 1 + length places ≡ length (cond (not t) (i ∷ places) places)
led_count true i places = omega arith
led_count false i places = omega arith

-- the lines of a block of two grids are those of its differing places, and as many are counted
pub grid-lines : (across : ℕ) (f g : Grid) (i n : ℕ) → step_lines across i (grid_cells f i n) (grid_cells g i n) ≡ lines_of across f g (places_from (differs_at f g) i n)
unfolding step_lines cells_from lines_of places_from differs_at
grid-lines across f g i zero = refl
grid-lines across f g i (suc n) =
    let t = same_cell (stats_at f i) (stats_at g i) in
    ap (λ (l : List ℕ). cond t [] (cell_line across i (stats_at f i) (stats_at g i)) ++ l) (grid-lines across f g (suc i) n) ∙ led_lines across f g t i _

pub grid-count : (f g : Grid) (i n : ℕ) → step_count (grid_cells f i n) (grid_cells g i n) ≡ length (places_from (differs_at f g) i n)
unfolding step_count cells_from places_from differs_at
grid-count f g i zero = refl
grid-count f g i (suc n) =
    let t = same_cell (stats_at f i) (stats_at g i) in
    ap (λ (k : ℕ). cond t 0 1 + k) (grid-count f g (suc i) n) ∙ led_count t i _

-- a step over one cell: no line where the two hold the same, else the cell's
module _ (r : Report) (a b : MEStats) where
  pub same_bytes : same_cell a b ≡ true → step_bytes r (a ∷ []) (b ∷ []) ≡ []
  unfolding step_lines
  same_bytes e = rw e

  pub same-report : same_cell a b ≡ true → step_report r (a ∷ []) (b ∷ []) ≡ record { across = r.across; next = r.next + 1; differ = r.differ }
  unfolding step_report step_count
  same-report e = rw (e, add-zero r.differ)

  pub other-bytes : same_cell a b ≡ false → step_bytes r (a ∷ []) (b ∷ []) ≡ cell_line r.across r.next a b
  unfolding step_lines
  other-bytes e = rw (e, append-nil)

  pub other-report : same_cell a b ≡ false → step_report r (a ∷ []) (b ∷ []) ≡ record { across = r.across; next = r.next + 1; differ = r.differ + 1 }
  unfolding step_report step_count
  other-report e = rw e

-- steps over the first n cells, as a loop makes them
module _ (f g : ℕ → MEStats) (r : Report) where
  even : (n : ℕ) → length (cells_from f 0 n) ≡ length (cells_from g 0 n)
  even n = cells-length f 0 n ∙ sym (cells-length g 0 n)

  pub no_report : r ≡ step_report r (cells_from f 0 0) (cells_from g 0 0)
  unfolding step_report step_count cells_from
  no_report = rw (add-zero r.next, add-zero r.differ)

  module _ (n : ℕ) {s : Report} (so_far : s ≡ step_report r (cells_from f 0 n) (cells_from g 0 n)) where
    pub passed_so_far : r.differ ≤ r.next → Passed r n s
    unfolding step_report
    passed_so_far counted =
        let next = ap (λ (t : Report). t.next) so_far in
        let long = cells-length f 0 n in
        record {
          across = ap (λ (t : Report). t.across) so_far;
          next = omega (arith, next, long);
          counted = omega (arith, next, long, ap (λ (t : Report). t.differ) so_far, count_most (cells_from f 0 n) (cells_from g 0 n));
        }

    -- and over one more
    pub more_report : {a b : MEStats} → a ≡ f n → b ≡ g n → step_report s (a ∷ []) (b ∷ []) ≡ step_report r (cells_from f 0 (n + 1)) (cells_from g 0 (n + 1))
    more_report d e =
        rw (so_far, d, e, cells-more f n, cells-more g n)
        (sym (report_joined r (cells_from f 0 n) (cells_from g 0 n) (f n ∷ []) (g n ∷ []) (even n)))

    pub more_bytes : {a b : MEStats} → a ≡ f n → b ≡ g n → step_bytes r (cells_from f 0 n) (cells_from g 0 n) ++ step_bytes s (a ∷ []) (b ∷ []) ≡ step_bytes r (cells_from f 0 (n + 1)) (cells_from g 0 (n + 1))
    more_bytes d e =
        rw (so_far, d, e, cells-more f n, cells-more g n)
        (sym (bytes-joined r (cells_from f 0 n) (cells_from g 0 n) (f n ∷ []) (g n ∷ []) (even n)))
