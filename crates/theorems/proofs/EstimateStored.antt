-- What a search saves is a vector in range, shifted left; and after the blocks of a superblock at its level's own size, the first
-- cell of each still holds one. Assumes nothing.
use mathlib.Core.Path.{◌≡◌, refl, sym, ap, ap₂, subst, ◌∙◌}
use mathlib.Core.Bool.{Bool, true, false, ◌&&◌, and-false}
use mathlib.Core.Logic.{⊎_elim}
use Prim.Native.Nat.{ℕ, zero, suc, ◌+◌, ◌*◌, ◌/◌, ◌%◌, ◌^◌, ◌≤◌, ◌<◌}
use native.Mathlib.Nat.{mul-suc, mul-le-mul_left, div-add-mod', le-div_iff_mul-le, eq-or-lt_of_le, le_of_suc-le-suc}
use native.Mathlib.Omega.{arith}
use borrow.Author.Tests.{lt-leb, lt-ltb}
use lib.Dec.{ltb}
use Rattle.motion.specs.declared.vector.MotionVector.{MotionVector}
use Rattle.motion.specs.Limits.{cell_side, largest_sample}
use Rattle.motion.specs.Vector.{shl_v}
use Rattle.motion.specs.Level.{level_of}
use Rattle.motion.specs.Frame.{Side, Starts}
use Rattle.motion.specs.Range.{in_range}
use Rattle.motion.specs.Block.{block_of, weighed}
use Rattle.motion.specs.Superblock.{superblocks, superblock_x, superblock_y}
use Rattle.grid.specs.declared.cells.MEStats.{MEStats}
use Rattle.grid.specs.Grid.{Grid, Held, cell_at, stats_at}
use Rattle.grid.specs.Previous.{Previous}
use Rattle.grid.specs.Save.{up_to, covers, save_block}
use Rattle.grid.proofs.CellLaws.{cell-inside}
use Rattle.grid.proofs.SaveLaws.{true-up_to, covers_at, read_outside, read_inside}
use Rattle.sad.proofs.Sums.{Under}
use Rattle.predict.specs.Predictors.{subsets_of}
use Rattle.predict.proofs.SubsetLaws.{subsets_sound}
use Rattle.estimate.specs.Inputs.{Inputs}
use Rattle.estimate.specs.Asked.{Ready}
use Rattle.estimate.specs.Block.{block_in, cost_in, full_pixel_me, stats_of, estimate_motion}
use Rattle.estimate.proofs.BlockFacts.{own-sized, block_lies, block_zero, full_pixel_me-settled}
use Rattle.superblock.specs.Step.{blocks_along, block_count, block_x, block_y, worked, estimates}
use Rattle.superblock.proofs.GeometryLaws.{Tabled, sixteen, thirty_two, sixty_four, own-tabled, across-some, placed}
use Rattle.superblock.proofs.StepLaws.{held-worked}

-- a vector in range of the block of a level's own size, shifted left by the level's shift
pub record Stored (width height level bx by : ℕ) (mv : MotionVector) : Type 0 where
  pub found : MotionVector
  pub in_range_lem : in_range (block_of width height (level_of level) (level_of level).mv_size bx by).range found ≡ true
  pub is : mv ≡ shl_v found (level_of level).ssdec

-- inputs that no test refuses, over planes of bytes and with a weight of 32 bits
pub record Bytes (i : Inputs) : Type 0 where
  pub ready : Ready i
  pub cur : Under largest_sample i.cur
  pub ref : Under largest_sample i.ref
  pub weight : i.weight < 2 ^ 32

-- what a search saves
pub estimate_stored : {i : Inputs} → Bytes i → (p : Previous) (bx by : ℕ) (g : Grid) → Starts i.width (level_of i.level).mv_size bx → Starts i.height (level_of i.level).mv_size by → Stored i.width i.height i.level bx by (estimate_motion i p bx by g).mv
unfolding estimate_motion stats_of block_in cost_in
estimate_stored {i} bytes p bx by g across down =
    let ready = bytes.ready in
    let sized = own-sized ready.leveled in
    let b = weighed (block_of i.width i.height (level_of i.level) (level_of i.level).mv_size bx by) i.weight in
    let mvs = subsets_of i.width i.height i.level bx by p.present p.grid g in
    let settled = full_pixel_me-settled b i.cur i.ref (block_zero ready sized across down) (block_lies ready sized across down).0.measured bytes.cur bytes.ref bytes.weight mvs (subsets_sound i.width i.height i.level bx by p.present p.grid g) i.level in
    record { found = (full_pixel_me (cost_in i b) i.level mvs).mv; in_range_lem = settled.in_range_lem; is = refl }

-- an earlier block along a side begins before a later one
earlier : (q b m n : ℕ) → 0 < q → m < n → up_to (b + q * n) (b + q * n + q) (b + q * m) ≡ false
unfolding up_to
earlier q b m n p h =
    let more = mul-le-mul_left {m = suc m} {n = n} q h in
    ap (λ (t : Bool). t && ltb (b + q * m) (b + q * n + q)) (lt-leb (b + q * n) (b + q * m) (omega (arith, mul-suc q m)))

cells-some : {size : ℕ} → Tabled size → 0 < size / cell_side
cells-some sixteen = omega arith
cells-some thirty_two = omega arith
cells-some sixty_four = omega arith

-- the blocks of a superblock of a frame
module _ {width height size n : ℕ} (tabled : Tabled size) (wide : Side width) (high : Side height) (h : n < superblocks width height) where
  -- no block covers the first cell of an earlier one
  pub apart_back : (j k : ℕ) → j < k → k < block_count width height size n → covers width height size (block_x width size n k) (block_y width size n k) (cell_at width (block_x width size n j) (block_y width size n j)) ≡ false
  unfolding block_x block_y
  apart_back j k order below =
      let across = blocks_along width size (superblock_x width n) in
      let q = size / cell_side in
      let x = superblock_x width n in
      let y = superblock_y width n in
      let some = across-some tabled wide high h in
      let rows : j / across ≤ k / across = (le-div_iff_mul-le {k = across} {x = j / across} {y = k} some).1 (omega (arith, div-add-mod' j across)) in
      let rest = ltb (y + q * (j / across)) (height / cell_side) in
      covers_at width height size (block_x width size n k) (block_y width size n k) (block_x width size n j) (block_y width size n j) (placed tabled wide high h j (omega arith)).0.inside
      ∙ ⊎_elim
      (λ same. ap (λ (t : Bool). t && (up_to (y + q * (k / across)) (y + q * (k / across) + q) (y + q * (j / across)) && rest))
      (earlier q x (j % across) (k % across) (cells-some tabled) (omega (arith, div-add-mod' j across, div-add-mod' k across, ap (λ (m : ℕ). m * across) same))))
      (λ less. ap (λ (t : Bool). up_to (x + q * (k % across)) (x + q * (k % across) + q) (x + q * (j % across)) && (t && rest)) (earlier q y (j / across) (k / across) (cells-some tabled) less)
      ∙ and-false (up_to (x + q * (k % across)) (x + q * (k % across) + q) (x + q * (j % across))))
      (eq-or-lt_of_le rows)

  -- each covers its own
  pub covers-first : (k : ℕ) → k < block_count width height size n → covers width height size (block_x width size n k) (block_y width size n k) (cell_at width (block_x width size n k) (block_y width size n k)) ≡ true
  covers-first k below =
      let bx = block_x width size n k in
      let by = block_y width size n k in
      let q = size / cell_side in
      let some = cells-some tabled in
      let starts = placed tabled wide high h k below in
      covers_at width height size bx by bx by starts.0.inside
      ∙ ap₂ ◌&&◌ (true-up_to bx (bx + q) bx (omega arith) (omega arith))
      (ap₂ ◌&&◌ (true-up_to by (by + q) by (omega arith) (omega arith)) (lt-ltb by (height / cell_side) starts.1.inside))

  -- so once the blocks have had their turns, the first cell of each holds its own result
  module _ (result : ℕ → ℕ → Grid → MEStats) (P : ℕ → ℕ → MEStats → Type 0) (each : (bx by : ℕ) (g : Grid) → Starts width size bx → Starts height size by → P bx by (result bx by g)) (g : Grid) (held : Held width height g) where
    pub firsts_hold : (k : ℕ) → k ≤ block_count width height size n → (j : ℕ) → j < k → P (block_x width size n j) (block_y width size n j) (stats_at (worked result width height size n k g) (cell_at width (block_x width size n j) (block_y width size n j)))
    unfolding worked save_block
    firsts_hold zero most j below = absurd (omega arith)
    firsts_hold (suc k) most j below =
        let now = worked result width height size n k g in
        let bx = block_x width size n k in
        let by = block_y width size n k in
        let jx = block_x width size n j in
        let jy = block_y width size n j in
        let new = result bx by now in
        let starts = placed tabled wide high h k most in
        let here : P bx by (stats_at (save_block width height size bx by new now) (cell_at width bx by)) = subst (P bx by) (sym (read_inside width height (covers width height size bx by) new now (cell_at width bx by) (held-worked result width height size n k g held) (cell-inside width height bx by starts.0.inside starts.1.inside) (covers-first k most))) (each bx by now starts.0 starts.1) in
        ⊎_elim
        (λ e. subst (λ (m : ℕ). P (block_x width size n m) (block_y width size n m) (stats_at (save_block width height size bx by new now) (cell_at width (block_x width size n m) (block_y width size n m)))) (sym e) here)
        (λ less. subst (P jx jy) (sym (read_outside (covers width height size bx by) new now (cell_at width jx jy) (apart_back j k less most))) (firsts_hold k (omega arith) j less))
        (eq-or-lt_of_le (le_of_suc-le-suc below))

-- the first cell of each block of a level's own size, after the superblock's estimates
pub estimates-stored : {i : Inputs} → Bytes i → (p : Previous) {n : ℕ} → n < superblocks i.width i.height → (g : Grid) → Held i.width i.height g → (k : ℕ) → k < block_count i.width i.height (level_of i.level).mv_size n → Stored i.width i.height i.level (block_x i.width (level_of i.level).mv_size n k) (block_y i.width (level_of i.level).mv_size n k) (stats_at (estimates i p n g) (cell_at i.width (block_x i.width (level_of i.level).mv_size n k) (block_y i.width (level_of i.level).mv_size n k))).mv
unfolding estimates
estimates-stored {i} bytes p {n} h g held k below =
    let size = (level_of i.level).mv_size in
    firsts_hold (own-tabled i.level) bytes.ready.wide bytes.ready.high h (estimate_motion i p) (λ bx by stats. Stored i.width i.height i.level bx by stats.mv)
    (λ bx by now across down. estimate_stored bytes p bx by now across down) g held (block_count i.width i.height size n) (omega arith) k below
