-- Level 4 in raster order forgets the grid before it, so that a run's cells inside the frame are the same for any first grid. Assumes
-- nothing.
use mathlib.Core.Path.{◌≡◌, refl, sym, ap, ap₂, ◌∙◌}
use mathlib.Core.Logic.{◌⊎◌, inl, inr}
use mathlib.Core.Bool.{Bool, true, false, ◌&&◌, false≢true}
use mathlib.Core.List.{List, [], ◌∷◌, ◌++◌}
use Prim.Native.Nat.{ℕ, zero, suc, ◌+◌, ◌-◌, ◌*◌, ◌/◌, ◌%◌, ◌≤◌, ◌<◌}
use native.Mathlib.Nat.{le_refl, zero-mod, zero-div, mod-lt, mod-eq_of_lt, mod-eq-sub-mod, mul-add-mod_self_right, mul-add-div_right, div-add-mod', div-eq_of_lt, div-eq-sub-div, le-div_iff_mul-le, eq-or-lt_of_le, le_of_suc-le-suc}
use native.Mathlib.Omega.{arith}
use borrow.Author.Tests.{ltb-true, lt-ltb}
use lib.ListN.{length, get_or}
use Rattle.ground.specs.Every.{all_below}
use Rattle.motion.specs.Limits.{cell_side}
use Rattle.motion.specs.Frame.{Side}
use Rattle.motion.specs.Level.{level_of}
use Rattle.motion.specs.Block.{cropped_to}
use Rattle.motion.specs.Superblock.{superblocks_along, superblocks, superblock_x, superblock_y}
use Rattle.grid.specs.Grid.{Grid, Held, cells, cell_at, stats_at}
use Rattle.grid.specs.Previous.{Previous}
use Rattle.grid.specs.Save.{save_block}
use Rattle.grid.proofs.CellLaws.{cell-inside}
use Rattle.grid.proofs.SaveLaws.{true-up_to, covers_at}
use Rattle.sampled.specs.Sampled.{cells_along, taken, neighbours, odd_block, cells_b, cells_centre}
use Rattle.estimate.specs.Inputs.{inputs_of, Planes, plane_at}
use Rattle.estimate.specs.Asked.{three, two}
use Rattle.estimate.specs.Block.{estimate_motion}
use Rattle.superblock.specs.Step.{blocks_along, block_count, block_x, block_y, worked, refined_count, windows_ok, refinements, estimates, step}
use Rattle.superblock.proofs.GeometryLaws.{column_begins, row-begins}
use Rattle.superblock.proofs.StepLaws.{held-step}
use Rattle.frame.specs.Run.{level_run, inputs_at, frame_run}
use Rattle.frame.proofs.RunLaws.{run-last}
use Rattle.order.specs.List.{raster}
use Rattle.order.proofs.EdgeLaws.{some_of}
use Rattle.order.proofs.Accepted.{raster-accepted}
use Rattle.theorems.specs.Cells.{own_cell, AgreeOn}
use Rattle.theorems.specs.Rest.{SameInside}
use Rattle.theorems.proofs.CellLaws.{own_of}
use Rattle.theorems.proofs.OrderLaws.{AcceptedList, order}
use Rattle.theorems.proofs.BlockReads.{SameAt, estimate_reads}
use Rattle.theorems.proofs.Inside.{saved_same, run-same}

same_taken : {g h : Grid} (t : Bool) (i : ℕ) → (t ≡ true → stats_at g i ≡ stats_at h i) → SameAt g h (taken t i)
unfolding taken
same_taken {g} {h} true i e = record { each = only }
  where
    only : (k : ℕ) → k < 1 → stats_at g (get_or (i ∷ []) k 0) ≡ stats_at h (get_or (i ∷ []) k 0)
    only zero p = e refl
    only (suc k) p = absurd (omega arith)
same_taken false i e = record { each = λ k p. absurd (omega arith) }

same-append : {g h : Grid} {is js : List ℕ} → SameAt g h is → SameAt g h js → SameAt g h (is ++ js)
same-append {g} {h} {is} {js} a b = record { each = go is a.each }
  where
    go : (is : List ℕ) → ((k : ℕ) → k < length is → stats_at g (get_or is k 0) ≡ stats_at h (get_or is k 0)) → (k : ℕ) → k < length (is ++ js) → stats_at g (get_or (is ++ js) k 0) ≡ stats_at h (get_or (is ++ js) k 0)
    go [] e k p = b.each k p
    go (i ∷ is) e zero p = e zero (omega arith)
    go (i ∷ is) e (suc k) p = go is (λ j q. e (suc j) (omega arith)) k (omega arith)

-- a column and a row of a superblock give one of its cells
own_at : (width height m x y : ℕ) → x < width / cell_side → y < height / cell_side → superblock_x width m ≤ x → x < superblock_x width m + 16 → superblock_y width m ≤ y → y < superblock_y width m + 16 → own_cell width height m (cell_at width x y) ≡ true
unfolding own_cell
own_at width height m x y inside below a b c d =
    covers_at width height 64 (superblock_x width m) (superblock_y width m) x y inside
    ∙ ap₂ ◌&&◌ (true-up_to (superblock_x width m) (superblock_x width m + 16) x a b) (ap₂ ◌&&◌ (true-up_to (superblock_y width m) (superblock_y width m + 16) y c d) (lt-ltb y (height / cell_side) below))

-- the superblock to the left, and the one above
module _ (across n : ℕ) (some : 0 < across) where
  left-of : 0 < n % across → ((n - 1) / across ≡ n / across) × ((n - 1) % across ≡ n % across - 1)
  left-of off =
      let place : n - 1 ≡ n / across * across + (n % across - 1) = omega (arith, div-add-mod' n across) in
      let short : n % across - 1 < across = omega (arith, mod-lt n some) in (
        ap (λ (m : ℕ). m / across) place ∙ mul-add-div_right some (n / across) (n % across - 1) ∙ ap (λ (m : ℕ). n / across + m) (div-eq_of_lt short) ∙ omega arith,
        ap (λ (m : ℕ). m % across) place ∙ mul-add-mod_self_right (n / across) across (n % across - 1) ∙ mod-eq_of_lt short,
      )

  above_of : 0 < n / across → (across ≤ n) × ((n - across) / across ≡ n / across - 1) × ((n - across) % across ≡ n % across)
  above_of low =
      let far : across ≤ n = omega (arith, (le-div_iff_mul-le {k = across} {x = 1} {y = n} some).0 low) in
      (far, omega (arith, div-eq-sub-div some far), sym (mod-eq-sub-mod far))

-- two grids of a frame's cells that hold the same in each cell of the first n superblocks
pub record SameBelow (width height n : ℕ) (g h : Grid) : Type 0 where
  pub one : Held width height g
  pub other : Held width height h
  pub same : (m : ℕ) → m < n → AgreeOn (λ (c : ℕ). (c < cells width height) × (own_cell width height m c ≡ true)) g h

-- level 4: one block a superblock, which samples cells of earlier superblocks alone
module _ (width height : ℕ) (cur ref : List ℕ) (weight : ℕ) (p : Previous) (wide : Side width) (high : Side height) (n : ℕ) (below : n < superblocks width height) where
  one_block : block_count width height 64 n ≡ 1
  unfolding block_count blocks_along
  one_block =
      let b = column_begins wide n in
      let c = row-begins wide high below in
      let across : blocks_along width 64 (superblock_x width n) ≡ 1 = omega (arith, b.inside) in
      let down : blocks_along height 64 (superblock_y width n) ≡ 1 = omega (arith, c.inside) in
      ap₂ ◌*◌ across down

  first-column : block_x width 64 n 0 ≡ superblock_x width n
  unfolding block_x
  first-column = omega (arith, zero-mod (blocks_along width 64 (superblock_x width n)))

  first-row : block_y width 64 n 0 ≡ superblock_y width n
  unfolding block_y
  first-row = omega (arith, zero-div (blocks_along width 64 (superblock_x width n)))

  step-four : (g : Grid) → step (inputs_of width height 4 cur ref weight) p n g ≡ save_block width height 64 (superblock_x width n) (superblock_y width n) (estimate_motion (inputs_of width height 4 cur ref weight) p (superblock_x width n) (superblock_y width n) g) g
  unfolding step windows_ok refined_count all_below refinements estimates worked level_of
  step-four g =
      let i = inputs_of width height 4 cur ref weight in
      ap (λ (k : ℕ). worked (estimate_motion i p) width height 64 n k g) one_block
      ∙ ap₂ (λ (bx by : ℕ). save_block width height 64 bx by (estimate_motion i p bx by g) g) first-column first-row

  -- a middle row or column lies in the frame and in the superblock
  middle-column : (superblock_x width n + cells_along width 64 (superblock_x width n) / 2 < width / cell_side) × (cells_along width 64 (superblock_x width n) / 2 < 16)
  unfolding cells_along cropped_to
  middle-column =
      let b = column_begins wide n in
      omega (arith, b.inside, b.aligned, wide.whole)

  middle-row : (superblock_y width n + cells_along height 64 (superblock_y width n) / 2 < height / cell_side) × (cells_along height 64 (superblock_y width n) / 2 < 16)
  unfolding cells_along cropped_to
  middle-row =
      let b = row-begins wide high below in
      omega (arith, b.inside, b.aligned, high.whole)

  along_some : 0 < superblocks_along width
  along_some = omega (arith, wide.least)

  module _ (g h : Grid) (e : SameBelow width height n g h) where
    left-same : 0 < superblock_x width n → stats_at g (cell_at width (superblock_x width n - 1) (superblock_y width n + cells_along height 64 (superblock_y width n) / 2)) ≡ stats_at h (cell_at width (superblock_x width n - 1) (superblock_y width n + cells_along height 64 (superblock_y width n) / 2))
    unfolding superblock_x superblock_y
    left-same off =
        let x = superblock_x width n - 1 in
        let y = superblock_y width n + cells_along height 64 (superblock_y width n) / 2 in
        let there = left-of (superblocks_along width) n along_some (omega arith) in
        let inside : x < width / cell_side = omega (arith, middle-column) in
        let some = some_of (superblocks_along width) n (λ z. omega arith) in
        e.same (n - 1) (omega arith) (cell_at width x y)
        (cell-inside width height x y inside middle-row.0, own_at width height (n - 1) x y inside middle-row.0 (omega arith) (omega arith) (omega (arith, there.0)) (omega (arith, there.0, middle-row.1)))

    above_same : 0 < superblock_y width n → stats_at g (cell_at width (superblock_x width n + cells_along width 64 (superblock_x width n) / 2) (superblock_y width n - 1)) ≡ stats_at h (cell_at width (superblock_x width n + cells_along width 64 (superblock_x width n) / 2) (superblock_y width n - 1))
    unfolding superblock_x superblock_y
    above_same off =
        let x = superblock_x width n + cells_along width 64 (superblock_x width n) / 2 in
        let y = superblock_y width n - 1 in
        let across = superblocks_along width in
        let there = above_of across n along_some (omega arith) in
        let inside : y < height / cell_side = omega (arith, middle-row) in
        let some = along_some in
        e.same (n - across) (omega (arith, there.0)) (cell_at width x y)
        (cell-inside width height x y middle-column.0 inside, own_at width height (n - across) x y middle-column.0 inside (omega (arith, there.2)) (omega (arith, there.2, middle-column.1)) (omega (arith, there.1)) (omega (arith, there.1)))

    sampled_same : SameAt g h (cells_b width height 4 (superblock_x width n) (superblock_y width n))
    unfolding cells_b neighbours odd_block level_of
    sampled_same =
        same-append
        (same-append
        (same-append (same_taken _ _ (λ t. left-same (ltb-true 0 (superblock_x width n) t))) (same_taken _ _ (λ t. above_same (ltb-true 0 (superblock_y width n) t))))
        (same_taken false _ (λ t. absurd (false≢true t))))
        (same_taken false _ (λ t. absurd (false≢true t)))

    found_same : estimate_motion (inputs_of width height 4 cur ref weight) p (superblock_x width n) (superblock_y width n) g ≡ estimate_motion (inputs_of width height 4 cur ref weight) p (superblock_x width n) (superblock_y width n) h
    unfolding cells_centre taken
    found_same =
        estimate_reads (inputs_of width height 4 cur ref weight) p (superblock_x width n) (superblock_y width n) g h sampled_same (record { each = λ k q. absurd (omega arith) })

    step-cell : (m : ℕ) → (m ≡ n) ⊎ (m < n) → (c : ℕ) → c < cells width height → own_cell width height m c ≡ true → own_cell width height n c ≡ false → stats_at g c ≡ stats_at h c
    step-cell m (inl s) c q own free = absurd (false≢true (sym free ∙ ap (λ (k : ℕ). own_cell width height k c) (sym s) ∙ own))
    step-cell m (inr less) c q own free = e.same m less c (q, own)

    step-below : SameBelow width height (suc n) (step (inputs_of width height 4 cur ref weight) p n g) (step (inputs_of width height 4 cur ref weight) p n h)
    unfolding own_cell
    step-below =
        let i = inputs_of width height 4 cur ref weight in
        let bx = superblock_x width n in
        let by = superblock_y width n in
        record {
          one = held-step i p n g e.one;
          other = held-step i p n h e.other;
          same = λ m q c r.
              ap (λ (a : Grid). stats_at a c) (step-four g)
              ∙ saved_same width height 64 bx by g h found_same e.one e.other c r.0 (step-cell m (eq-or-lt_of_le (le_of_suc-le-suc q)) c r.0 r.1)
              ∙ sym (ap (λ (a : Grid). stats_at a c) (step-four h));
        }

-- level 4 in raster order: whatever the grids held before, the cells of the superblocks that have had their step are the same
module _ (width height : ℕ) (cur ref : List ℕ) (weight : ℕ) (p : Previous) (wide : Side width) (high : Side height) where
  pub raster-below : (n : ℕ) → n ≤ superblocks width height → (g h : Grid) → Held width height g → Held width height h → SameBelow width height n (level_run (inputs_of width height 4 cur ref weight) p (raster n) g) (level_run (inputs_of width height 4 cur ref weight) p (raster n) h)
  unfolding raster level_run
  raster-below zero most g h one other = record { one = one; other = other; same = λ m q. absurd (omega arith) }
  raster-below (suc n) most g h one other =
      let i = inputs_of width height 4 cur ref weight in
      let now = raster-below n (omega arith) g h one other in
      rw (run-last i p (raster n) n g, run-last i p (raster n) n h)
      (step-below width height cur ref weight p wide high n most (level_run i p (raster n) g) (level_run i p (raster n) h) now)

  pub raster-same : (g h : Grid) → Held width height g → Held width height h → SameInside width height (level_run (inputs_of width height 4 cur ref weight) p (raster (superblocks width height)) g) (level_run (inputs_of width height 4 cur ref weight) p (raster (superblocks width height)) h)
  raster-same g h one other =
      let done = raster-below (superblocks width height) (le_refl _) g h one other in
      record { one = done.one; other = done.other; same = λ c q. done.same (own_of wide high c q).n (own_of wide high c q).inside c (q, (own_of wide high c q).own) }

-- and levels 3 and 2 keep that; an accepted list gives the raster grid
pub whatever_raster : (width height : ℕ) → Side width → Side height → (cur ref : Planes) (weight : ℕ) (p : Previous) (g h : Grid) → Held width height g → Held width height h → (c : ℕ) → c < cells width height → stats_at (frame_run width height cur ref weight p (raster (superblocks width height)) g) c ≡ stats_at (frame_run width height cur ref weight p (raster (superblocks width height)) h) c
unfolding frame_run inputs_at
whatever_raster width height wide high cur ref weight p g h one other c q =
    let at = inputs_at width height cur ref weight in
    let all = raster (superblocks width height) in
    let below = (raster-accepted (superblocks_along width) (superblocks width height)).below in
    let a = raster-same width height (plane_at cur 4) (plane_at ref 4) weight p wide high g h one other in
    let b = run-same (at 3) p wide high three all below _ _ a in
    (run-same (at 2) p wide high two all below _ _ b).same c q

pub whatever_before : (width height : ℕ) → Side width → Side height → (cur ref : Planes) (weight : ℕ) (p : Previous) (list : List ℕ) → AcceptedList width height list → (g h : Grid) → Held width height g → Held width height h → (c : ℕ) → c < cells width height → stats_at (frame_run width height cur ref weight p list g) c ≡ stats_at (frame_run width height cur ref weight p list h) c
whatever_before width height wide high cur ref weight p list ok g h one other c q =
    ap (λ (a : Grid). stats_at a c) (order width height wide high cur ref weight p list ok g)
    ∙ whatever_raster width height wide high cur ref weight p g h one other c q
    ∙ sym (ap (λ (a : Grid). stats_at a c) (order width height wide high cur ref weight p list ok h))
