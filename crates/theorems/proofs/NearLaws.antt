-- Every cell that a block reads of the current grid is one of its superblock, or of one that shares an edge with it. Assumes nothing.
use mathlib.Core.Path.{◌≡◌, refl, sym, ap, subst, ◌∙◌}
use mathlib.Core.Bool.{Bool, true, false, not, ◌&&◌, ◌||◌, or-true}
use mathlib.Core.List.{List, [], ◌∷◌, ◌++◌}
use mathlib.Core.Logic.{◌⊎◌, inl, inr, ⊎_elim}
use Prim.Native.Nat.{ℕ, ◌+◌, ◌-◌, ◌*◌, ◌/◌, ◌%◌, ◌≤◌, ◌<◌}
use native.Mathlib.Nat.{eq-or-lt_of_le, div-add-mod', mul-add-mod_self_right, mod-eq_of_lt, mul-add-div_right, div-eq_of_lt}
use native.Mathlib.Omega.{arith}
use borrow.Author.Tests.{ltb-true}
use lib.Dec.{ltb, eqb}
use Rattle.ground.proofs.TestLaws.{both}
use Rattle.motion.specs.Limits.{cell_side}
use Rattle.motion.specs.Level.{level_of}
use Rattle.motion.specs.Frame.{Side, Starts, own4, own3, own2}
use Rattle.motion.specs.Block.{cropped_to}
use Rattle.motion.specs.Superblock.{superblocks_along, superblocks, superblock_x, superblock_y}
use Rattle.grid.specs.Grid.{cell_at}
use Rattle.grid.proofs.CellLaws.{cell-inside}
use Rattle.sampled.specs.Sampled.{cells_along, taken, neighbours, centre_cell, cells_b, cells_centre}
use Rattle.sampled.proofs.InsideLaws.{middle-inside}
use Rattle.superblock.specs.Step.{block_count, block_x, block_y}
use Rattle.superblock.proofs.GeometryLaws.{Tabled, sixteen, thirty_two, sixty_four, own-tabled, placed}
use Rattle.order.specs.List.{shares_edge}
use Rattle.order.proofs.EdgeLaws.{beside_shares}
use Rattle.theorems.specs.Cells.{beside, NearCell}
use Rattle.theorems.proofs.CellLaws.{side_cells, owned, own_of, block_ends, column_below, row_below}

-- every cell of a list is of a kind
pub data Each (Kind : ℕ → Type 0) : List ℕ → Type 0 where
  none : Each Kind []
  more : {c : ℕ} {cs : List ℕ} → Kind c → Each Kind cs → Each Kind (c ∷ cs)

each_taken : {Kind : ℕ → Type 0} (t : Bool) (c : ℕ) → (t ≡ true → Kind c) → Each Kind (taken t c)
unfolding taken
each_taken true c h = more (h refl) none
each_taken false c h = none

each_append : {Kind : ℕ → Type 0} {cs ds : List ℕ} → Each Kind cs → Each Kind ds → Each Kind (cs ++ ds)
each_append none e = e
each_append (more h d) e = more h (each_append d e)

-- superblock t along an axis is s, the one before, or the one after
abbrev Reach : ℕ → ℕ → Type 0
Reach s t = (t ≡ s) ⊎ ((t + 1 ≡ s) ⊎ (t ≡ s + 1))

-- superblocks m and n: the same, or beside each other
abbrev Near : ℕ → ℕ → ℕ → Type 0
Near across m n = (m ≡ n) ⊎ (beside across m n ≡ true)

module _ (across m n : ℕ) (some : 0 < across) where
  same_place : m / across ≡ n / across → m % across ≡ n % across → m ≡ n
  same_place row column = omega (arith, column, div-add-mod' m across, div-add-mod' n across, ap (λ (r : ℕ). r * across) row)

  near_before : shares_edge across m n ≡ true → Near across m n
  unfolding beside
  near_before e = inr (ap (λ (t : Bool). t || shares_edge across n m) e)

  near-after : shares_edge across n m ≡ true → Near across m n
  unfolding beside
  near-after e = inr (ap (λ (t : Bool). shares_edge across m n || t) e ∙ or-true (shares_edge across m n))

  in_row : m / across ≡ n / across → Reach (n % across) (m % across) → Near across m n
  in_row row (inl e) = inl (same_place row e)
  in_row row (inr (inl e)) = near_before (beside_shares across m n some (inl (sym row, sym e)))
  in_row row (inr (inr e)) = near-after (beside_shares across n m some (inl (row, e)))

  in_column : m % across ≡ n % across → Reach (n / across) (m / across) → Near across m n
  in_column column (inl e) = inl (same_place e column)
  in_column column (inr (inl e)) = near_before (beside_shares across m n some (inr (sym e, sym column)))
  in_column column (inr (inr e)) = near-after (beside_shares across n m some (inr (e, column)))

-- a cell of the frame in a superblock near superblock n
module _ {width height : ℕ} (wide : Side width) (high : Side height) (n x y : ℕ) (hx : x < width / cell_side) (hy : y < height / cell_side) where
  near_by : ((m : ℕ) → m / superblocks_along width ≡ y / side_cells → m % superblocks_along width ≡ x / side_cells → Near (superblocks_along width) m n) → NearCell width height n (cell_at width x y)
  unfolding cell_at
  near_by near =
      let w = width / cell_side in
      let owner = own_of wide high (cell_at width x y) (cell-inside width height x y hx hy) in
      let at = owned width height owner.n (cell_at width x y) owner.own in
      let column : (y * w + x) % w ≡ x = mul-add-mod_self_right y w x ∙ mod-eq_of_lt hx in
      let row : (y * w + x) / w ≡ y + x / w = mul-add-div_right {m = w} (omega arith) y x in
      record {
        of = owner.n;
        inside = owner.inside;
        near = near owner.n (omega (arith, at.row, div-eq_of_lt hx)) (omega (arith, at.column));
        own = owner.own;
      }

  some : 0 < superblocks_along width
  some = omega (arith, wide.least)

  near-across : y / side_cells ≡ n / superblocks_along width → Reach (n % superblocks_along width) (x / side_cells) → NearCell width height n (cell_at width x y)
  near-across row reach =
      near_by (λ m r c. in_row (superblocks_along width) m n some (r ∙ row) (subst (Reach (n % superblocks_along width)) (sym c) reach))

  near_down : x / side_cells ≡ n % superblocks_along width → Reach (n / superblocks_along width) (y / side_cells) → NearCell width height n (cell_at width x y)
  near_down column reach =
      near_by (λ m r c. in_column (superblocks_along width) m n some (c ∙ column) (subst (Reach (n / superblocks_along width)) (sym r) reach))

-- a block on one axis of superblock s, and its middle
record Within (s b long : ℕ) : Type 0 where
  low : side_cells * s ≤ b
  ends : b + long ≤ side_cells * s + side_cells
  middle : (b + long / 2) / side_cells ≡ s

module _ {s b long : ℕ} (in-it : Within s b long) where
  reach_before : 0 < b → Reach s ((b - 1) / side_cells)
  reach_before p = ⊎_elim (λ e. inr (inl (omega arith))) (λ l. inl (omega (arith, in-it.middle))) (eq-or-lt_of_le in-it.low)

  reach_after : Reach s ((b + long) / side_cells)
  reach_after = ⊎_elim (λ e. inr (inr (omega arith))) (λ l. inl (omega (arith, in-it.low))) (eq-or-lt_of_le in-it.ends)

cells-some : {size : ℕ} → Tabled size → 0 < size / cell_side
cells-some sixteen = omega arith
cells-some thirty_two = omega arith
cells-some sixty_four = omega arith

within : {size : ℕ} → Tabled size → (side s m : ℕ) → size / cell_side * m + size / cell_side ≤ side_cells → Within s (side_cells * s + size / cell_side * m) (cells_along side size (side_cells * s + size / cell_side * m))
unfolding cells_along cropped_to
within {size} tabled side s m fits =
    record { low = omega arith; ends = omega arith; middle = omega (arith, cells-some tabled) }

-- the middle is inside the frame
middle-in : {size side b : ℕ} → Tabled size → Side side → Starts side size b → b + cells_along side size b / 2 < side / cell_side
middle-in sixteen s starts = middle-inside own2 s starts
middle-in thirty_two s starts = middle-inside own3 s starts
middle-in sixty_four s starts = middle-inside own4 s starts

-- right and bottom are taken only inside
asked : (t : Bool) (m n : ℕ) → t && ltb m n ≡ true → m < n
asked t m n e = ltb-true m n (both t (ltb m n) e).1

-- block k of superblock n
module _ {width height size n : ℕ} (tabled : Tabled size) (wide : Side width) (high : Side height) (h : n < superblocks width height) (k : ℕ) (below : k < block_count width height size n) where
  columns : Within (n % superblocks_along width) (block_x width size n k) (cells_along width size (block_x width size n k))
  unfolding block_x superblock_x
  columns =
      within tabled width (n % superblocks_along width) _ (block_ends tabled width (superblock_x width n) _ (column_below tabled wide high h k below))

  rows : Within (n / superblocks_along width) (block_y width size n k) (cells_along height size (block_y width size n k))
  unfolding block_y superblock_y
  rows =
      within tabled height (n / superblocks_along width) _ (block_ends tabled height (superblock_y width n) _ (row_below tabled wide high h k below))

  across : block_x width size n k + cells_along width size (block_x width size n k) / 2 < width / cell_side
  across = middle-in tabled wide (placed tabled wide high h k below).0

  down : block_y width size n k + cells_along height size (block_y width size n k) / 2 < height / cell_side
  down = middle-in tabled high (placed tabled wide high h k below).1

  -- its first cell
  pub first-near : NearCell width height n (cell_at width (block_x width size n k) (block_y width size n k))
  first-near =
      near-across wide high n (block_x width size n k) (block_y width size n k) (omega (arith, across)) (omega (arith, down))
      (omega (arith, rows.low, rows.middle)) (inl (omega (arith, columns.low, columns.middle)))

  -- its middle
  pub centre_near : NearCell width height n (centre_cell width height size (block_x width size n k) (block_y width size n k))
  unfolding centre_cell
  centre_near = near-across wide high n _ _ across down rows.middle (inl columns.middle)

  -- left, top, right and bottom
  pub neighbours-near : (right bottom : Bool) → Each (NearCell width height n) (neighbours width height size (block_x width size n k) (block_y width size n k) right bottom)
  unfolding neighbours
  neighbours-near right bottom =
      let bx = block_x width size n k in
      let by = block_y width size n k in
      each_append
      (each_append
      (each_append
      (each_taken (ltb 0 bx) _ (λ e. near-across wide high n (bx - 1) _ (omega (arith, across)) down rows.middle (reach_before columns (ltb-true 0 bx e))))
      (each_taken (ltb 0 by) _ (λ e. near_down wide high n _ (by - 1) across (omega (arith, down)) columns.middle (reach_before rows (ltb-true 0 by e)))))
      (each_taken _ _ (λ e. near-across wide high n _ _ (asked right _ _ e) down rows.middle (reach_after columns))))
      (each_taken _ _ (λ e. near_down wide high n _ _ across (asked bottom _ _ e) columns.middle (reach_after rows)))

-- a block of a level's own size
module _ {width height n : ℕ} (level : ℕ) (wide : Side width) (high : Side height) (h : n < superblocks width height) (k : ℕ) (below : k < block_count width height (level_of level).mv_size n) where
  pub b-near : Each (NearCell width height n) (cells_b width height level (block_x width (level_of level).mv_size n k) (block_y width (level_of level).mv_size n k))
  unfolding cells_b
  b-near = neighbours-near (own-tabled level) wide high h k below _ _

  pub middle-near : Each (NearCell width height n) (cells_centre width height level (block_x width (level_of level).mv_size n k) (block_y width (level_of level).mv_size n k))
  unfolding cells_centre
  middle-near = each_taken (not (eqb level 4)) _ (λ e. centre_near (own-tabled level) wide high h k below)
