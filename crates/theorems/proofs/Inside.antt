-- What a step and a level leave inside the frame depends on what they find there alone, for grids of any lengths. Assumes nothing.
use mathlib.Core.Path.{◌≡◌, sym, ap, subst, ◌∙◌}
use mathlib.Core.Logic.{◌⊎◌, inl, inr}
use mathlib.Core.Bool.{Bool, true, false, cond}
use mathlib.Core.List.{List, [], ◌∷◌}
use Prim.Native.Nat.{ℕ, zero, suc, ◌≤◌, ◌<◌}
use native.Mathlib.Nat.{le_refl}
use native.Mathlib.Omega.{arith}
use lib.ListN.{length, get_or}
use Rattle.ground.proofs.TestLaws.{tested}
use Rattle.ground.proofs.EveryLaws.{below_same}
use Rattle.motion.specs.Frame.{Side, Placed}
use Rattle.motion.specs.Level.{level_of}
use Rattle.motion.specs.Superblock.{superblocks}
use Rattle.grid.specs.declared.cells.MEStats.{MEStats}
use Rattle.grid.specs.Grid.{Grid, Held, cells, cell_at, stats_at}
use Rattle.grid.specs.Previous.{Previous}
use Rattle.grid.specs.Save.{covers, save_block}
use Rattle.grid.proofs.CellLaws.{cell-inside}
use Rattle.grid.proofs.SaveLaws.{held-block, block_inside, block_outside}
use Rattle.points.specs.Window.{window_ok}
use Rattle.sampled.proofs.InsideLaws.{b-inside, centre_inside}
use Rattle.estimate.specs.Inputs.{Inputs}
use Rattle.estimate.specs.Asked.{Leveled}
use Rattle.estimate.specs.Block.{estimate_motion, refine_motion}
use Rattle.estimate.proofs.BlockFacts.{own-sized}
use Rattle.superblock.specs.Step.{block_count, block_x, block_y, worked, refined_count, windows_ok, refinements, estimates, step}
use Rattle.superblock.proofs.GeometryLaws.{own-tabled, refined_tabled, placed}
use Rattle.superblock.proofs.StepLaws.{refined_below}
use Rattle.frame.specs.Run.{level_run}
use Rattle.theorems.specs.Rest.{SameInside}
use Rattle.theorems.proofs.BlockReads.{estimate_reads, refine-reads, window_reads}

-- a result saved in both
module _ (width height size bx by : ℕ) (g h : Grid) {s t : MEStats} (e : s ≡ t) (one : Held width height g) (other : Held width height h) where
  saved_by : (c : ℕ) → c < cells width height → (covers width height size bx by c ≡ false → stats_at g c ≡ stats_at h c) → (covers width height size bx by c ≡ true) ⊎ (covers width height size bx by c ≡ false) → stats_at (save_block width height size bx by s g) c ≡ stats_at (save_block width height size bx by t h) c
  saved_by c p before (inl q) =
      block_inside width height size bx by s g c one p q ∙ e ∙ sym (block_inside width height size bx by t h c other p q)
  saved_by c p before (inr q) =
      block_outside width height size bx by s g c q ∙ before q ∙ sym (block_outside width height size bx by t h c q)

  pub saved_same : (c : ℕ) → c < cells width height → (covers width height size bx by c ≡ false → stats_at g c ≡ stats_at h c) → stats_at (save_block width height size bx by s g) c ≡ stats_at (save_block width height size bx by t h) c
  saved_same c p before = saved_by c p before (tested (covers width height size bx by c))

-- the first blocks of a superblock, where each result is the same for grids that are the same inside the frame
module _ (result : ℕ → ℕ → Grid → MEStats) (width height size n count : ℕ) (reads : (k : ℕ) → k < count → (g h : Grid) → SameInside width height g h → result (block_x width size n k) (block_y width size n k) g ≡ result (block_x width size n k) (block_y width size n k) h) where
  worked_same : (k : ℕ) → k ≤ count → (g h : Grid) → SameInside width height g h → SameInside width height (worked result width height size n k g) (worked result width height size n k h)
  unfolding worked
  worked_same zero most g h e = e
  worked_same (suc k) most g h e =
      let a = worked result width height size n k g in
      let b = worked result width height size n k h in
      let now = worked_same k (omega arith) g h e in
      let bx = block_x width size n k in
      let by = block_y width size n k in
      record {
        one = held-block width height size bx by (result bx by a) a now.one;
        other = held-block width height size bx by (result bx by b) b now.other;
        same = λ c p. saved_same width height size bx by a b (reads k (omega arith) a b now) now.one now.other c p (λ q. now.same c p);
      }

pub same_if : (t : Bool) (width height : ℕ) {a b g h : Grid} → SameInside width height a b → SameInside width height g h → SameInside width height (cond t a g) (cond t b h)
same_if true width height e f = e
same_if false width height e f = f

-- what a step leaves inside the frame depends on what it finds there alone
module _ (i : Inputs) (p : Previous) (wide : Side i.width) (high : Side i.height) (leveled : Leveled i.level) (n : ℕ) (below : n < superblocks i.width i.height) where
  estimate_same : (k : ℕ) → k < block_count i.width i.height (level_of i.level).mv_size n → (g h : Grid) → SameInside i.width i.height g h
      → estimate_motion i p (block_x i.width (level_of i.level).mv_size n k) (block_y i.width (level_of i.level).mv_size n k) g ≡ estimate_motion i p (block_x i.width (level_of i.level).mv_size n k) (block_y i.width (level_of i.level).mv_size n k) h
  estimate_same k few g h e =
      let size = (level_of i.level).mv_size in
      let bx = block_x i.width size n k in
      let by = block_y i.width size n k in
      let starts = placed (own-tabled i.level) wide high below k few in
      let at : Placed i.width i.height (level_of i.level) size bx by = record { wide = wide; high = high; sized = own-sized leveled; across = starts.0; down = starts.1 } in
      estimate_reads i p bx by g h
      (record { each = λ m q. e.same _ (b-inside i.width i.height i.level bx by at m q) })
      (record { each = λ m q. e.same _ (centre_inside i.width i.height i.level bx by at m q) })

  first-same : (k : ℕ) → k < refined_count i.width i.height i.level n → (g h : Grid) → SameInside i.width i.height g h
      → stats_at g (cell_at i.width (block_x i.width (level_of i.level).refined n k) (block_y i.width (level_of i.level).refined n k)) ≡ stats_at h (cell_at i.width (block_x i.width (level_of i.level).refined n k) (block_y i.width (level_of i.level).refined n k))
  first-same k few g h e =
      let starts = placed (refined_tabled i.level) wide high below k (refined_below i.width i.height i.level n few) in
      e.same _ (cell-inside i.width i.height _ _ starts.0.inside starts.1.inside)

  pub windows_same : (g h : Grid) → SameInside i.width i.height g h → windows_ok i.width i.height i.level n g.rows g.cols ≡ windows_ok i.width i.height i.level n h.rows h.cols
  unfolding windows_ok
  windows_same g h e =
      let size = (level_of i.level).refined in
      below_same (refined_count i.width i.height i.level n) _ _
      (λ k few. ap window_ok (window_reads (block_x i.width size n k) (block_y i.width size n k) g h i.width i.height i.level (first-same k few g h e)))

  refinements-same : (g h : Grid) → SameInside i.width i.height g h → SameInside i.width i.height (refinements i n g) (refinements i n h)
  unfolding refinements
  refinements-same g h e =
      let size = (level_of i.level).refined in
      let count = refined_count i.width i.height i.level n in
      worked_same (λ bx by g. refine_motion i bx by g.rows g.cols) i.width i.height size n count
      (λ k few g h e. refine-reads (block_x i.width size n k) (block_y i.width size n k) g h i (first-same k few g h e)) count (le_refl count) g h e

  estimates-same : (g h : Grid) → SameInside i.width i.height g h → SameInside i.width i.height (estimates i p n g) (estimates i p n h)
  unfolding estimates
  estimates-same g h e =
      let size = (level_of i.level).mv_size in
      let count = block_count i.width i.height size n in
      worked_same (estimate_motion i p) i.width i.height size n count estimate_same count (le_refl count) g h e

  pub step_same : (g h : Grid) → SameInside i.width i.height g h → SameInside i.width i.height (step i p n g) (step i p n h)
  unfolding step
  step_same g h e =
      let done = estimates-same (refinements i n g) (refinements i n h) (refinements-same g h e) in
      subst (λ (t : Bool). SameInside i.width i.height (step i p n g) (cond t (estimates i p n (refinements i n h)) h)) (windows_same g h e)
      (same_if (windows_ok i.width i.height i.level n g.rows g.cols) i.width i.height done e)

-- and so do the steps of a level
module _ (i : Inputs) (p : Previous) (wide : Side i.width) (high : Side i.height) (leveled : Leveled i.level) where
  pub run-same : (ns : List ℕ) → ((k : ℕ) → k < length ns → get_or ns k 0 < superblocks i.width i.height) → (g h : Grid) → SameInside i.width i.height g h → SameInside i.width i.height (level_run i p ns g) (level_run i p ns h)
  unfolding level_run
  run-same [] below g h e = e
  run-same (n ∷ ns) below g h e =
      run-same ns (λ k q. below (suc k) (omega arith)) (step i p n g) (step i p n h) (step_same i p wide high leveled n (below 0 (omega arith)) g h e)
