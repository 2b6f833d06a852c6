-- No refinement of a step has an empty window where the superblock's cells are as the level before left them. Assumes nothing.
use mathlib.Core.Path.{◌≡◌, refl, sym, subst}
use mathlib.Core.Bool.{true}
use mathlib.Core.List.{List}
use Prim.Native.Nat.{ℕ, suc, ◌<◌}
use lib.IntN.{ℤ}
use Rattle.ground.specs.Every.{all_below}
use Rattle.ground.proofs.EveryLaws.{below_of}
use Rattle.motion.specs.declared.vector.MotionVector.{MotionVector}
use Rattle.motion.specs.Level.{level_of}
use Rattle.motion.specs.Frame.{Side, Starts}
use Rattle.motion.specs.Block.{block_of}
use Rattle.motion.specs.Superblock.{superblocks}
use Rattle.grid.specs.declared.cells.MEStats.{MEStats}
use Rattle.grid.specs.Grid.{Grid, Held, cell_at, stats_at}
use Rattle.grid.specs.Previous.{Previous}
use Rattle.points.specs.Window.{refine_window, window_ok}
use Rattle.estimate.specs.Inputs.{inputs_of}
use Rattle.estimate.specs.Block.{first_stored, window_at}
use Rattle.superblock.specs.Step.{block_count, block_x, block_y, refined_count, windows_ok, estimates}
use Rattle.superblock.proofs.GeometryLaws.{Tabled, thirty_two, sixty_four, placed}
use Rattle.theorems.proofs.WindowSome.{Refines, three-64, two-32, window_some}
use Rattle.theorems.proofs.EstimateStored.{Stored, Bytes, estimates-stored}

-- level 4 refines nothing
pub windows_first : (width height n : ℕ) (rows cols : List ℤ) → windows_ok width height 4 n rows cols ≡ true
unfolding windows_ok refined_count all_below
windows_first width height n rows cols = refl

pub refines-tabled : {level size : ℕ} → Refines level size → Tabled size
refines-tabled three-64 = sixty_four
refines-tabled two-32 = thirty_two

-- a vector that the level before has stored gives a window
stored_some : {level size width height bx by : ℕ} {mv : MotionVector} (r : Refines level size) → Side width → Side height → Starts width size bx → Starts height size by → Stored width height (suc level) bx by mv → window_ok (refine_window (block_of width height (level_of level) size bx by).range mv (level_of level).ssdec) ≡ true
unfolding level_of
stored_some {width = W} {height = H} {bx = bx} {by = by} three-64 wide high across down s =
    subst (λ (v : MotionVector). window_ok (refine_window (block_of W H (level_of 3) 64 bx by).range v 1) ≡ true) (sym s.is) (window_some three-64 wide high across down s.found s.in_range_lem)
stored_some {width = W} {height = H} {bx = bx} {by = by} two-32 wide high across down s =
    subst (λ (v : MotionVector). window_ok (refine_window (block_of W H (level_of 2) 32 bx by).range v 0) ≡ true) (sym s.is) (window_some two-32 wide high across down s.found s.in_range_lem)

-- so does each first cell of a superblock that holds one
module _ {width height n : ℕ} (wide : Side width) (high : Side height) (h : n < superblocks width height) (g : Grid) where
  pub windows_stored : {level size : ℕ} → Refines level size → ((k : ℕ) → k < block_count width height size n → Stored width height (suc level) (block_x width size n k) (block_y width size n k) (stats_at g (cell_at width (block_x width size n k) (block_y width size n k))).mv) → windows_ok width height level n g.rows g.cols ≡ true
  unfolding level_of windows_ok refined_count window_at first_stored stats_at
  windows_stored three-64 stored =
      below_of (block_count width height 64 n) _ (λ k below. let starts = placed sixty_four wide high h k below in stored_some three-64 wide high starts.0 starts.1 (stored k below))
  windows_stored two-32 stored =
      below_of (block_count width height 32 n) _ (λ k below. let starts = placed thirty_two wide high h k below in stored_some two-32 wide high starts.0 starts.1 (stored k below))

-- the first cells of a superblock, of one size, are as another grid holds them
abbrev pub FirstsAgree : ℕ → ℕ → ℕ → ℕ → Grid → Grid → Type 0
FirstsAgree width height size n g h =
    (k : ℕ) → k < block_count width height size n → stats_at g (cell_at width (block_x width size n k) (block_y width size n k)) ≡ stats_at h (cell_at width (block_x width size n k) (block_y width size n k))

-- a level before, for any grid that its estimates began with
module _ (width height : ℕ) (cur ref : List ℕ) (weight : ℕ) (p : Previous) {n : ℕ} (h : n < superblocks width height) (start : Grid) (held : Held width height start) (g : Grid) where
  stored_after : {level size : ℕ} → Refines level size → Bytes (inputs_of width height (suc level) cur ref weight) → FirstsAgree width height size n g (estimates (inputs_of width height (suc level) cur ref weight) p n start) → (k : ℕ) → k < block_count width height size n → Stored width height (suc level) (block_x width size n k) (block_y width size n k) (stats_at g (cell_at width (block_x width size n k) (block_y width size n k))).mv
  unfolding level_of
  stored_after three-64 bytes agree k below =
      subst (λ (s : MEStats). Stored width height 4 (block_x width 64 n k) (block_y width 64 n k) s.mv) (sym (agree k below)) (estimates-stored bytes p h start held k below)
  stored_after two-32 bytes agree k below =
      subst (λ (s : MEStats). Stored width height 3 (block_x width 32 n k) (block_y width 32 n k) s.mv) (sym (agree k below)) (estimates-stored bytes p h start held k below)

  -- no window at the next level is empty
  pub windows_after : {level size : ℕ} → Refines level size → Bytes (inputs_of width height (suc level) cur ref weight) → FirstsAgree width height size n g (estimates (inputs_of width height (suc level) cur ref weight) p n start) → windows_ok width height level n g.rows g.cols ≡ true
  windows_after r bytes agree = windows_stored bytes.ready.wide bytes.ready.high h g r (stored_after r bytes agree)
