-- Cells past the frame stay as they were through a step, a level and a run. Assumes nothing.
use mathlib.Core.Path.{◌≡◌, refl, ap, ◌∙◌}
use mathlib.Core.Bool.{Bool, true, false, ◌&&◌, cond, and-false}
use mathlib.Core.List.{List, [], ◌∷◌}
use Prim.Native.Nat.{ℕ, zero, suc, ◌+◌, ◌/◌, ◌%◌, ◌≤◌}
use native.Mathlib.Nat.{mul_comm, le-div_iff_mul-le}
use native.Mathlib.Omega.{arith}
use borrow.Author.Tests.{le-ltb}
use Rattle.motion.specs.Limits.{cell_side}
use Rattle.motion.specs.Frame.{Side}
use Rattle.grid.specs.declared.cells.MEStats.{MEStats}
use Rattle.grid.specs.Grid.{Grid, cells, stats_at}
use Rattle.grid.specs.Previous.{Previous}
use Rattle.grid.specs.Save.{up_to, covers}
use Rattle.grid.proofs.SaveLaws.{block_outside}
use Rattle.estimate.specs.Inputs.{Inputs, Planes}
use Rattle.superblock.specs.Step.{block_x, block_y, worked, windows_ok, refinements, estimates, step}
use Rattle.frame.specs.Run.{level_run, inputs_at, frame_run}

-- no block covers a cell past the frame
module _ (width height c : ℕ) (wide : Side width) (past : cells width height ≤ c) where
  covers-past : (size bx by : ℕ) → covers width height size bx by c ≡ false
  unfolding covers cells
  covers-past size bx by =
      let w = width / cell_side in
      let low : height / cell_side ≤ c / w = (le-div_iff_mul-le {k = w} {x = height / cell_side} {y = c} (omega (arith, wide.least))).1 (omega (arith, mul_comm w (height / cell_side))) in
      let across = up_to bx (bx + size / cell_side) (c % w) in
      let down = up_to by (by + size / cell_side) (c / w) in
      ap (λ (t : Bool). across && (down && t)) (le-ltb (c / w) (height / cell_side) low)
      ∙ ap (λ (t : Bool). across && t) (and-false down) ∙ and-false across

  worked-past : (result : ℕ → ℕ → Grid → MEStats) (size n k : ℕ) (g : Grid) → stats_at (worked result width height size n k g) c ≡ stats_at g c
  unfolding worked
  worked-past result size n zero g = refl
  worked-past result size n (suc k) g =
      let now = worked result width height size n k g in
      let bx = block_x width size n k in
      let by = block_y width size n k in
      block_outside width height size bx by (result bx by now) now c (covers-past size bx by) ∙ worked-past result size n k g

pub kept_if : (t : Bool) (next g : Grid) (c : ℕ) → stats_at next c ≡ stats_at g c → stats_at (cond t next g) c ≡ stats_at g c
kept_if true next g c e = e
kept_if false next g c e = refl

-- so cells past the frame stay as they were
module _ (i : Inputs) (p : Previous) (wide : Side i.width) (c : ℕ) (past : cells i.width i.height ≤ c) where
  pub step_past : (n : ℕ) (g : Grid) → stats_at (step i p n g) c ≡ stats_at g c
  unfolding step estimates refinements
  step_past n g =
      kept_if (windows_ok i.width i.height i.level n g.rows g.cols) _ g c
      (worked-past i.width i.height c wide past _ _ n _ (refinements i n g) ∙ worked-past i.width i.height c wide past _ _ n _ g)

  pub run_past : (ns : List ℕ) (g : Grid) → stats_at (level_run i p ns g) c ≡ stats_at g c
  unfolding level_run
  run_past [] g = refl
  run_past (n ∷ ns) g = run_past ns (step i p n g) ∙ step_past n g

pub past-stays : (width height : ℕ) → Side width → (cur ref : Planes) (weight : ℕ) (p : Previous) (list : List ℕ) (g : Grid) (c : ℕ) → cells width height ≤ c → stats_at (frame_run width height cur ref weight p list g) c ≡ stats_at g c
unfolding frame_run inputs_at
past-stays width height wide cur ref weight p list g c past =
    run_past _ p wide c past list _ ∙ run_past _ p wide c past list _ ∙ run_past _ p wide c past list g
