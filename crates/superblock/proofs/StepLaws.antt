-- The blocks of a superblock in turn, and a step: what each turn adds, that buffers keep their lengths, and that every window of a
-- step is that of the grid before it. Assumes nothing.
use mathlib.Core.Path.{◌≡◌, refl, sym, ap, ◌∙◌}
use mathlib.Core.Bool.{Bool, true, false, cond}
use mathlib.Core.List.{List}
use Prim.Native.Nat.{ℕ, zero, suc, ◌+◌, ◌≤◌, ◌<◌}
use native.Mathlib.Numerals.{add-one}
use native.Mathlib.Omega.{arith}
use lib.Dec.{eqb}
use lib.IntN.{ℤ}
use lib.ListN.{length}
use Rattle.ground.proofs.EveryLaws.{below_at}
use Rattle.motion.specs.Frame.{Side}
use Rattle.motion.specs.Level.{level_of}
use Rattle.motion.specs.Block.{block_of}
use Rattle.motion.specs.Superblock.{superblocks}
use Rattle.grid.specs.declared.cells.MEStats.{MEStats}
use Rattle.grid.specs.Grid.{Grid, Held, cell_at, stats_at}
use Rattle.grid.specs.Previous.{Previous}
use Rattle.grid.specs.declared.lent.GridMut.{GridMut}
use Rattle.grid.specs.Lent.{SameBuffers}
use Rattle.grid.specs.Save.{covers, save_block}
use Rattle.grid.proofs.SaveLaws.{save_lengths, read_outside}
use Rattle.points.specs.Window.{refine_window, window_ok}
use Rattle.estimate.specs.Inputs.{Inputs}
use Rattle.estimate.specs.Block.{estimate_motion, first_stored, window_at, refine_motion}
use Rattle.superblock.specs.Step.{block_count, block_x, block_y, worked, refined_count, windows_ok, refinements, estimates, step}
use Rattle.superblock.proofs.GeometryLaws.{Tabled, refined_tabled, apart}

-- a grid whose buffers are as long as another's
pub record AsLong (g now : Grid) : Type 0 where
  pub rows : length now.rows ≡ length g.rows
  pub cols : length now.cols ≡ length g.cols
  pub sads : length now.sads ≡ length g.sads

pub long_none : (g : Grid) → AsLong g g
long_none g = record { rows = refl; cols = refl; sads = refl }

pub long_more : {g now next : Grid} → AsLong g now → AsLong now next → AsLong g next
long_more a b = record { rows = b.rows ∙ a.rows; cols = b.cols ∙ a.cols; sads = b.sads ∙ a.sads }

pub held-long : {width height : ℕ} {g now : Grid} → AsLong g now → Held width height g → Held width height now
held-long long held =
    record {
      rows = omega (arith, long.rows, held.rows);
      cols = omega (arith, long.cols, held.cols);
      sads = omega (arith, long.sads, held.sads);
    }

-- a call that leaves three buffers in place, and one after another
pub same-none : (g : GridMut) → SameBuffers g g
same-none g = record { rows = refl; cols = refl; sads = refl; rows_length = refl; cols_length = refl; sads_length = refl }

pub same-more : {g now next : GridMut} → SameBuffers g now → SameBuffers now next → SameBuffers g next
same-more a b =
    record {
      rows = b.rows ∙ a.rows;
      cols = b.cols ∙ a.cols;
      sads = b.sads ∙ a.sads;
      rows_length = b.rows_length ∙ a.rows_length;
      cols_length = b.cols_length ∙ a.cols_length;
      sads_length = b.sads_length ∙ a.sads_length;
    }

pub save_long : (width height size bx by : ℕ) (stats : MEStats) (g : Grid) → AsLong g (save_block width height size bx by stats g)
unfolding save_block
save_long width height size bx by stats g =
    let same = save_lengths (covers width height size bx by) stats g in
    record { rows = same.0; cols = same.1; sads = same.2 }

-- the first k blocks of a superblock
module _ (result : ℕ → ℕ → Grid → MEStats) (width height size n : ℕ) where
  pub worked-none : (g : Grid) → worked result width height size n 0 g ≡ g
  unfolding worked
  worked-none g = refl

  pub worked-more : (k : ℕ) (g : Grid) → worked result width height size n (k + 1) g ≡ save_block width height size (block_x width size n k) (block_y width size n k) (result (block_x width size n k) (block_y width size n k) (worked result width height size n k g)) (worked result width height size n k g)
  unfolding worked
  worked-more k g = ap (λ (m : ℕ). worked result width height size n m g) (add-one k)

  -- a turn of a loop, which has the size, the place, the grid and the result at hand
  pub worked-turn : (k : ℕ) (g : Grid) {mv-size bx by : ℕ} {stats : MEStats} {now next : Grid}
      → mv-size ≡ size → bx ≡ block_x width size n k → by ≡ block_y width size n k → now ≡ worked result width height size n k g
      → stats ≡ result bx by now → next ≡ save_block width height mv-size bx by stats now
      → next ≡ worked result width height size n (k + 1) g
  worked-turn k g size_is column-is row_is now-is stats-is next-is =
      let result-is = stats-is ∙ λ i. result (column-is i) (row_is i) (now-is i) in
      next-is ∙ (λ i. save_block width height (size_is i) (column-is i) (row_is i) (result-is i) (now-is i)) ∙ sym (worked-more k g)

  pub worked-long : (k : ℕ) (g : Grid) → AsLong g (worked result width height size n k g)
  unfolding worked
  worked-long zero g = long_none g
  worked-long (suc k) g =
      let now = worked result width height size n k g in
      let bx = block_x width size n k in
      let by = block_y width size n k in
      long_more (worked-long k g) (save_long width height size bx by (result bx by now) now)

  pub held-worked : (k : ℕ) (g : Grid) → Held width height g → Held width height (worked result width height size n k g)
  held-worked k g held = held-long (worked-long k g) held

  -- the first cell of a block is as it was until the block's turn comes
  pub first-stays : Tabled size → Side width → Side height → n < superblocks width height
      → (j k : ℕ) → j ≤ k → k < block_count width height size n → (g : Grid)
      → stats_at (worked result width height size n j g) (cell_at width (block_x width size n k) (block_y width size n k)) ≡ stats_at g (cell_at width (block_x width size n k) (block_y width size n k))
  unfolding worked save_block
  first-stays tabled wide high h zero k order below g = refl
  first-stays tabled wide high h (suc j) k order below g =
      let now = worked result width height size n j g in
      let bx = block_x width size n j in
      let by = block_y width size n j in
      read_outside (covers width height size bx by) (result bx by now) now (cell_at width (block_x width size n k) (block_y width size n k)) (apart tabled wide high h j k (omega arith) below)
      ∙ first-stays tabled wide high h j k (omega arith) below g

-- a step refines no more than the blocks of its size
none_refined : (t : Bool) {k m : ℕ} → k < cond t 0 m → k < m
none_refined true h = absurd (omega arith)
none_refined false h = h

pub refined_below : (width height level n : ℕ) {k : ℕ} → k < refined_count width height level n → k < block_count width height (level_of level).refined n
unfolding refined_count
refined_below width height level n h = none_refined (eqb level 4) h

-- a window depends on the vector stored in the block's first cell alone
window_by : (width height level bx by : ℕ) (g now : Grid) → stats_at now (cell_at width bx by) ≡ stats_at g (cell_at width bx by)
    → window_at width height level bx by now.rows now.cols ≡ window_at width height level bx by g.rows g.cols
unfolding window_at first_stored stats_at
window_by width height level bx by g now e =
    ap (λ (s : MEStats). refine_window (block_of width height (level_of level) (level_of level).refined bx by).range s.mv (level_of level).ssdec) e

-- the windows of a superblock's refinements
module _ {width height n : ℕ} (level : ℕ) (wide : Side width) (high : Side height) (h : n < superblocks width height) where
  -- all depend on the grid before the step alone
  pub window_stays : (result : ℕ → ℕ → Grid → MEStats) (j k : ℕ) → j ≤ k → k < refined_count width height level n → (g : Grid)
      → window_at width height level (block_x width (level_of level).refined n k) (block_y width (level_of level).refined n k) (worked result width height (level_of level).refined n j g).rows (worked result width height (level_of level).refined n j g).cols ≡ window_at width height level (block_x width (level_of level).refined n k) (block_y width (level_of level).refined n k) g.rows g.cols
  window_stays result j k order below g =
      let size = (level_of level).refined in
      window_by width height level (block_x width size n k) (block_y width size n k) g (worked result width height size n j g)
      (first-stays result width height size n (refined_tabled level) wide high h j k order (refined_below width height level n below) g)

-- whether a refinement's window is not empty
abbrev pub passes : (width height level n : ℕ) (rows cols : List ℤ) → ℕ → Bool
passes width height level n rows cols k =
    window_ok (window_at width height level (block_x width (level_of level).refined n k) (block_y width (level_of level).refined n k) rows cols)

-- where none is empty, each is not
pub window_passes : (width height level n : ℕ) (rows cols : List ℤ) → windows_ok width height level n rows cols ≡ true → (k : ℕ) → k < refined_count width height level n
    → window_ok (window_at width height level (block_x width (level_of level).refined n k) (block_y width (level_of level).refined n k) rows cols) ≡ true
unfolding windows_ok
window_passes width height level n rows cols ok k below =
    let size = (level_of level).refined in
    below_at (refined_count width height level n) (λ (k : ℕ). window_ok (window_at width height level (block_x width size n k) (block_y width size n k) rows cols)) ok k below

-- a step, where a window is empty and where none is
pub step-refused : (i : Inputs) (p : Previous) (n : ℕ) (g : Grid) → windows_ok i.width i.height i.level n g.rows g.cols ≡ false → step i p n g ≡ g
unfolding step
step-refused i p n g e = ap (λ (t : Bool). cond t (estimates i p n (refinements i n g)) g) e

pub step-taken : (i : Inputs) (p : Previous) (n : ℕ) (g : Grid) → windows_ok i.width i.height i.level n g.rows g.cols ≡ true → step i p n g ≡ estimates i p n (refinements i n g)
unfolding step
step-taken i p n g e = ap (λ (t : Bool). cond t (estimates i p n (refinements i n g)) g) e

-- every buffer keeps its length
pub refinements-long : (i : Inputs) (n : ℕ) (g : Grid) → AsLong g (refinements i n g)
unfolding refinements
refinements-long i n g =
    worked-long (λ (bx by : ℕ) (g : Grid). refine_motion i bx by g.rows g.cols) i.width i.height (level_of i.level).refined n
    (refined_count i.width i.height i.level n) g

estimates-long : (i : Inputs) (p : Previous) (n : ℕ) (g : Grid) → AsLong g (estimates i p n g)
unfolding estimates
estimates-long i p n g =
    let size = (level_of i.level).mv_size in
    worked-long (estimate_motion i p) i.width i.height size n (block_count i.width i.height size n) g

long_if : (t : Bool) {g next : Grid} → AsLong g next → AsLong g (cond t next g)
long_if true long = long
long_if false {g} long = long_none g

pub step-long : (i : Inputs) (p : Previous) (n : ℕ) (g : Grid) → AsLong g (step i p n g)
unfolding step
step-long i p n g =
    long_if (windows_ok i.width i.height i.level n g.rows g.cols) (long_more (refinements-long i n g) (estimates-long i p n (refinements i n g)))

pub held-step : {width height : ℕ} (i : Inputs) (p : Previous) (n : ℕ) (g : Grid) → Held width height g → Held width height (step i p n g)
held-step i p n g held = held-long (step-long i p n g) held
