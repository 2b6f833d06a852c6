-- A step writes its own superblock's cells alone, and what it writes depends on those and on the cells of the superblocks that
-- share an edge with it alone. Assumes nothing.
use mathlib.Core.Path.{◌≡◌, refl, sym, ap, ◌∙◌}
use mathlib.Core.Bool.{Bool, true, false, cond, true≢false}
use mathlib.Core.List.{List}
use mathlib.Core.Logic.{⊎_elim}
use Prim.Native.Nat.{ℕ, zero, suc, ◌-◌, ◌<◌}
use native.Mathlib.Nat.{eq-zero-or-pos}
use native.Mathlib.Omega.{arith}
use lib.IntN.{pos}
use lib.ListN.{length, get_or, get_or-eq_default}
use Rattle.ground.proofs.TestLaws.{tested, not_so}
use Rattle.ground.proofs.EveryLaws.{below_same}
use Rattle.motion.specs.Level.{level_of}
use Rattle.motion.specs.Frame.{Side}
use Rattle.motion.specs.Superblock.{superblocks}
use Rattle.grid.specs.declared.cells.MEStats.{MEStats}
use Rattle.grid.specs.Grid.{Grid, cell_at, stored_at, stats_at}
use Rattle.grid.specs.Previous.{Previous}
use Rattle.grid.specs.Save.{replace, save_where, covers, save_block}
use Rattle.grid.proofs.SaveLaws.{length-replace, get_d_replace, block_outside}
use Rattle.points.specs.Window.{window_ok}
use Rattle.estimate.specs.Inputs.{Inputs}
use Rattle.estimate.specs.Block.{estimate_motion, refine_motion}
use Rattle.superblock.specs.Step.{block_count, block_x, block_y, worked, refined_count, windows_ok, refinements, estimates, step}
use Rattle.superblock.proofs.GeometryLaws.{Tabled, own-tabled, refined_tabled}
use Rattle.superblock.proofs.StepLaws.{AsLong, long_more, worked-long, refined_below, refinements-long, step-refused, step-taken}
use Rattle.theorems.specs.Cells.{own_cell, NearCell, AgreeOn}
use Rattle.theorems.proofs.CellLaws.{block_own}
use Rattle.theorems.proofs.BlockReads.{SameAt, estimate_reads, refine-reads, window_reads}
use Rattle.theorems.proofs.NearLaws.{Each, none, more, first-near, b-near, middle-near}

-- a block that is saved changes no cell outside its superblock
module _ (result : ℕ → ℕ → Grid → MEStats) {width height size n : ℕ} (tabled : Tabled size) (wide : Side width) (high : Side height) (h : n < superblocks width height) where
  worked-outside : (count : ℕ) → ((k : ℕ) → k < count → k < block_count width height size n) → (g : Grid) (c : ℕ) → own_cell width height n c ≡ false → stats_at (worked result width height size n count g) c ≡ stats_at g c
  unfolding worked
  worked-outside zero fits g c out = refl
  worked-outside (suc k) fits g c out =
      let now = worked result width height size n k g in
      let bx = block_x width size n k in
      let by = block_y width size n k in
      let uncovered = not_so (covers width height size bx by c) (λ e. true≢false (sym (block_own tabled wide high h k (fits k (omega arith)) c e) ∙ out)) in
      block_outside width height size bx by (result bx by now) now c uncovered ∙ worked-outside k (λ j p. fits j (omega arith)) g c out

-- grids that agree on cells of a kind hold the same in each cell of a list of them
each_at : {Kind : ℕ → Type 0} (g h : Grid) → AgreeOn Kind g h → {cs : List ℕ} → Each Kind cs → (k : ℕ) → k < length cs → stats_at g (get_or cs k 0) ≡ stats_at h (get_or cs k 0)
each_at g h agree none k p = absurd (omega arith)
each_at g h agree (more it e) zero p = agree _ it
each_at g h agree (more it e) (suc k) p = each_at g h agree e k (omega arith)

each_same : {Kind : ℕ → Type 0} (g h : Grid) → AgreeOn Kind g h → {cs : List ℕ} → Each Kind cs → SameAt g h cs
each_same g h agree e = record { each = each_at g h agree e }

-- one more save in two lists that are as long as each other, and hold the same at a place
replace-agrees : {A : Type 0} (test : ℕ → Bool) (new d : A) (xs ys : List A) → length ys ≡ length xs → (c : ℕ) → get_or xs c d ≡ get_or ys c d → get_or (replace test new xs) c d ≡ get_or (replace test new ys) c d
replace-agrees test new d xs ys long c e = ⊎_elim out inside (eq-zero-or-pos (length xs - c))
  where
    out : length xs - c ≡ 0 → get_or (replace test new xs) c d ≡ get_or (replace test new ys) c d
    out z =
        get_or-eq_default (replace test new xs) d (omega (arith, length-replace test new xs))
        ∙ sym (get_or-eq_default (replace test new ys) d (omega (arith, length-replace test new ys)))

    inside : 0 < length xs - c → get_or (replace test new xs) c d ≡ get_or (replace test new ys) c d
    inside p =
        get_d_replace test new xs c d (omega arith) ∙ ap (cond (test c) new) e ∙ sym (get_d_replace test new ys c d (omega arith))

save_agrees : (width height size bx by : ℕ) (stats : MEStats) (g h : Grid) → AsLong g h → (c : ℕ) → stats_at g c ≡ stats_at h c → stats_at (save_block width height size bx by stats g) c ≡ stats_at (save_block width height size bx by stats h) c
unfolding save_block save_where stats_at stored_at
save_agrees width height size bx by stats g h long c e =
    let test = covers width height size bx by in
    let row = replace-agrees test stats.mv.row (pos 0) g.rows h.rows long.rows c (ap (λ (s : MEStats). s.mv.row) e) in
    let col = replace-agrees test stats.mv.col (pos 0) g.cols h.cols long.cols c (ap (λ (s : MEStats). s.mv.col) e) in
    let sad = replace-agrees test stats.normalized_sad 0 g.sads h.sads long.sads c (ap (λ (s : MEStats). s.normalized_sad) e) in
    λ j. record { mv = record { row = row j; col = col j }; normalized_sad = sad j }

-- two grids that are as long as each other stay so
pub long_back : {g now : Grid} → AsLong g now → AsLong now g
long_back long = record { rows = sym long.rows; cols = sym long.cols; sads = sym long.sads }

pub long_both : {g h g' h' : Grid} → AsLong g g' → AsLong h h' → AsLong g h → AsLong g' h'
long_both one other long = long_more (long_back one) (long_more long other)

-- blocks whose results are the same for two grids that agree
module _ (result : ℕ → ℕ → Grid → MEStats) (width height size n : ℕ) (Kind : ℕ → Type 0) where
  worked-agrees : (count : ℕ) → ((k : ℕ) → k < count → (g h : Grid) → AgreeOn Kind g h → result (block_x width size n k) (block_y width size n k) g ≡ result (block_x width size n k) (block_y width size n k) h)
      → (g h : Grid) → AsLong g h → AgreeOn Kind g h → AgreeOn Kind (worked result width height size n count g) (worked result width height size n count h)
  unfolding worked
  worked-agrees zero same g h long agree = agree
  worked-agrees (suc k) same g h long agree = λ c it.
      let now = worked result width height size n k g in
      let now' = worked result width height size n k h in
      let bx = block_x width size n k in
      let by = block_y width size n k in
      let before : AgreeOn Kind now now' = worked-agrees k (λ j p. same j (omega arith)) g h long agree in
      save_agrees width height size bx by (result bx by now) now now' (long_both (worked-long result width height size n k g) (worked-long result width height size n k h) long) c (before c it)
      ∙ ap (λ (stats : MEStats). stats_at (save_block width height size bx by stats now') c) (same k (omega arith) now now' before)

-- superblock n of a frame
module _ (i : Inputs) (p : Previous) (wide : Side i.width) (high : Side i.height) (n : ℕ) (inside : n < superblocks i.width i.height) where
  -- a block's search reads near cells alone
  pub estimate_agrees : (k : ℕ) → k < block_count i.width i.height (level_of i.level).mv_size n → (g h : Grid) → AgreeOn (NearCell i.width i.height n) g h
      → estimate_motion i p (block_x i.width (level_of i.level).mv_size n k) (block_y i.width (level_of i.level).mv_size n k) g ≡ estimate_motion i p (block_x i.width (level_of i.level).mv_size n k) (block_y i.width (level_of i.level).mv_size n k) h
  estimate_agrees k below g h agree =
      let size = (level_of i.level).mv_size in
      estimate_reads i p (block_x i.width size n k) (block_y i.width size n k) g h
      (each_same g h agree (b-near i.level wide high inside k below)) (each_same g h agree (middle-near i.level wide high inside k below))

  -- a refinement and its window read the block's first cell alone
  first-agrees : (k : ℕ) → k < block_count i.width i.height (level_of i.level).refined n → (g h : Grid) → AgreeOn (NearCell i.width i.height n) g h
      → stats_at g (cell_at i.width (block_x i.width (level_of i.level).refined n k) (block_y i.width (level_of i.level).refined n k)) ≡ stats_at h (cell_at i.width (block_x i.width (level_of i.level).refined n k) (block_y i.width (level_of i.level).refined n k))
  first-agrees k below g h agree = agree _ (first-near (refined_tabled i.level) wide high inside k below)

  pub refine-agrees : (k : ℕ) → k < block_count i.width i.height (level_of i.level).refined n → (g h : Grid) → AgreeOn (NearCell i.width i.height n) g h
      → refine_motion i (block_x i.width (level_of i.level).refined n k) (block_y i.width (level_of i.level).refined n k) g.rows g.cols ≡ refine_motion i (block_x i.width (level_of i.level).refined n k) (block_y i.width (level_of i.level).refined n k) h.rows h.cols
  refine-agrees k below g h agree =
      let size = (level_of i.level).refined in
      refine-reads (block_x i.width size n k) (block_y i.width size n k) g h i (first-agrees k below g h agree)

  windows_agree : (g h : Grid) → AgreeOn (NearCell i.width i.height n) g h → windows_ok i.width i.height i.level n g.rows g.cols ≡ windows_ok i.width i.height i.level n h.rows h.cols
  unfolding windows_ok
  windows_agree g h agree =
      let size = (level_of i.level).refined in
      below_same (refined_count i.width i.height i.level n) _ _
      (λ k below. ap window_ok (window_reads (block_x i.width size n k) (block_y i.width size n k) g h i.width i.height i.level (first-agrees k (refined_below i.width i.height i.level n below) g h agree)))

  refinements-agree : (g h : Grid) → AsLong g h → AgreeOn (NearCell i.width i.height n) g h → AgreeOn (NearCell i.width i.height n) (refinements i n g) (refinements i n h)
  unfolding refinements
  refinements-agree g h long agree =
      worked-agrees (λ bx by g. refine_motion i bx by g.rows g.cols) i.width i.height (level_of i.level).refined n (NearCell i.width i.height n)
      (refined_count i.width i.height i.level n) (λ k below. refine-agrees k (refined_below i.width i.height i.level n below)) g h long agree

  estimates-agree : (g h : Grid) → AsLong g h → AgreeOn (NearCell i.width i.height n) g h → AgreeOn (NearCell i.width i.height n) (estimates i p n g) (estimates i p n h)
  unfolding estimates
  estimates-agree g h long agree =
      let size = (level_of i.level).mv_size in
      worked-agrees (estimate_motion i p) i.width i.height size n (NearCell i.width i.height n) (block_count i.width i.height size n) estimate_agrees g h long agree

  -- two grids that agree near a superblock do so after its step
  pub step-agrees : (g h : Grid) → AsLong g h → AgreeOn (NearCell i.width i.height n) g h → AgreeOn (NearCell i.width i.height n) (step i p n g) (step i p n h)
  step-agrees g h long agree = λ c it. ⊎_elim (taken_at c it) (refused-at c it) (tested (ok g))
    where
      ok : Grid → Bool
      ok g = windows_ok i.width i.height i.level n g.rows g.cols

      taken_at : (c : ℕ) → NearCell i.width i.height n c → ok g ≡ true → stats_at (step i p n g) c ≡ stats_at (step i p n h) c
      taken_at c it e =
          ap (λ (g : Grid). stats_at g c) (step-taken i p n g e)
          ∙ estimates-agree (refinements i n g) (refinements i n h) (long_both (refinements-long i n g) (refinements-long i n h) long) (refinements-agree g h long agree) c it
          ∙ sym (ap (λ (g : Grid). stats_at g c) (step-taken i p n h (sym (windows_agree g h agree) ∙ e)))

      refused-at : (c : ℕ) → NearCell i.width i.height n c → ok g ≡ false → stats_at (step i p n g) c ≡ stats_at (step i p n h) c
      refused-at c it e =
          ap (λ (g : Grid). stats_at g c) (step-refused i p n g e)
          ∙ agree c it
          ∙ sym (ap (λ (g : Grid). stats_at g c) (step-refused i p n h (sym (windows_agree g h agree) ∙ e)))

  refinements-outside : (g : Grid) (c : ℕ) → own_cell i.width i.height n c ≡ false → stats_at (refinements i n g) c ≡ stats_at g c
  unfolding refinements
  refinements-outside g c out =
      worked-outside (λ bx by g. refine_motion i bx by g.rows g.cols) (refined_tabled i.level) wide high inside (refined_count i.width i.height i.level n)
      (λ k below. refined_below i.width i.height i.level n below) g c out

  estimates-outside : (g : Grid) (c : ℕ) → own_cell i.width i.height n c ≡ false → stats_at (estimates i p n g) c ≡ stats_at g c
  unfolding estimates
  estimates-outside g c out =
      worked-outside (estimate_motion i p) (own-tabled i.level) wide high inside (block_count i.width i.height (level_of i.level).mv_size n)
      (λ k below. below) g c out

  -- a step writes its own superblock's cells alone
  pub step-outside : (g : Grid) (c : ℕ) → own_cell i.width i.height n c ≡ false → stats_at (step i p n g) c ≡ stats_at g c
  step-outside g c out =
      ⊎_elim
      (λ e. ap (λ (g : Grid). stats_at g c) (step-taken i p n g e) ∙ estimates-outside (refinements i n g) c out ∙ refinements-outside g c out)
      (λ e. ap (λ (g : Grid). stats_at g c) (step-refused i p n g e))
      (tested (windows_ok i.width i.height i.level n g.rows g.cols))
