-- Which cells a superblock has: every cell of the frame is a cell of exactly one, and a block's cells are its superblock's.
-- Assumes nothing.
use mathlib.Core.Path.{◌≡◌, ap, ap₂}
use mathlib.Core.Bool.{true, ◌&&◌}
use Prim.Native.Nat.{ℕ, ◌+◌, ◌*◌, ◌/◌, ◌%◌, ◌≤◌, ◌<◌}
use native.Mathlib.Nat.{add-mul, mul_comm, mul-le-mul_right, mod-lt, mod-eq_of_lt, div-add-mod', div-eq_of_lt, div-lt_iff_lt-mul, mul-add-mod_self_right, mul-add-div_right}
use native.Mathlib.Omega.{arith}
use borrow.Author.Tests.{ltb-true, lt-ltb}
use lib.Dec.{ltb}
use Rattle.ground.proofs.TestLaws.{both}
use Rattle.motion.specs.Limits.{cell_side, superblock_side}
use Rattle.motion.specs.Frame.{Side}
use Rattle.motion.specs.Superblock.{superblocks_along, superblocks, superblock_x, superblock_y}
use Rattle.grid.specs.Grid.{cells}
use Rattle.grid.specs.Save.{up_to, covers}
use Rattle.grid.proofs.SaveLaws.{up-to_true, true-up_to}
use Rattle.superblock.specs.Step.{blocks_along, block_count, block_x, block_y}
use Rattle.superblock.proofs.GeometryLaws.{Tabled, sixteen, thirty_two, sixty_four, across-some}
use Rattle.theorems.specs.Cells.{own_cell}

-- a superblock's side in cells
abbrev pub side_cells : ℕ
side_cells = superblock_side / cell_side

-- where a cell of a block lies
record Covered (width height size bx by c : ℕ) : Type 0 where
  left : bx ≤ c % (width / cell_side)
  right : c % (width / cell_side) < bx + size / cell_side
  top : by ≤ c / (width / cell_side)
  bottom : c / (width / cell_side) < by + size / cell_side
  inside : c / (width / cell_side) < height / cell_side

module _ (width height size bx by c : ℕ) where
  covered : covers width height size bx by c ≡ true → Covered width height size bx by c
  unfolding covers
  covered e =
      let x = c % (width / cell_side) in
      let y = c / (width / cell_side) in
      let parts = both (up_to bx (bx + size / cell_side) x) (up_to by (by + size / cell_side) y && ltb y (height / cell_side)) e in
      let rest = both (up_to by (by + size / cell_side) y) (ltb y (height / cell_side)) parts.1 in
      let across = up-to_true bx (bx + size / cell_side) x parts.0 in
      let down = up-to_true by (by + size / cell_side) y rest.0 in
      record { left = across.0; right = across.1; top = down.0; bottom = down.1; inside = ltb-true y (height / cell_side) rest.1 }

  covers-by : Covered width height size bx by c → covers width height size bx by c ≡ true
  unfolding covers
  covers-by h =
      ap₂ ◌&&◌ (true-up_to _ _ _ h.left h.right) (ap₂ ◌&&◌ (true-up_to _ _ _ h.top h.bottom) (lt-ltb _ _ h.inside))

-- where a cell of superblock n lies
pub record Owned (width height n c : ℕ) : Type 0 where
  pub column : c % (width / cell_side) / side_cells ≡ n % superblocks_along width
  pub row : c / (width / cell_side) / side_cells ≡ n / superblocks_along width
  pub inside : c / (width / cell_side) < height / cell_side

module _ (width height n c : ℕ) where
  pub owned : own_cell width height n c ≡ true → Owned width height n c
  unfolding own_cell superblock_x superblock_y
  owned e =
      let at = covered width height superblock_side (superblock_x width n) (superblock_y width n) c e in
      record {
        column = omega (arith, at.left, at.right);
        row = omega (arith, at.top, at.bottom);
        inside = at.inside;
      }

  pub own-by : Owned width height n c → own_cell width height n c ≡ true
  unfolding own_cell superblock_x superblock_y
  own-by h =
      covers-by width height superblock_side (superblock_x width n) (superblock_y width n) c
      (record {
        left = omega (arith, h.column);
        right = omega (arith, h.column);
        top = omega (arith, h.row);
        bottom = omega (arith, h.row);
        inside = h.inside;
      })

-- one superblock alone has a cell
pub own-once : (width height a b c : ℕ) → own_cell width height a c ≡ true → own_cell width height b c ≡ true → a ≡ b
own-once width height a b c p q =
    let across = superblocks_along width in
    let one = owned width height a c p in
    let other = owned width height b c q in
    let rows : a / across ≡ b / across = omega (arith, one.row, other.row) in
    omega (arith, one.column, other.column, div-add-mod' a across, div-add-mod' b across, ap (λ (m : ℕ). m * across) rows)

-- a column and a row of cells lie in a column and a row of superblocks
along_inside : {side : ℕ} (x : ℕ) → Side side → x < side / cell_side → x / side_cells < superblocks_along side
along_inside x s h = omega (arith, s.least)

-- the superblock that has a cell
pub record Owner (width height c : ℕ) : Type 0 where
  pub n : ℕ
  pub inside : n < superblocks width height
  pub own : own_cell width height n c ≡ true

module _ {width height : ℕ} (wide : Side width) (high : Side height) where
  pub own-inside : (n c : ℕ) → own_cell width height n c ≡ true → c < cells width height
  unfolding cells
  own-inside n c e =
      let row = (div-lt_iff_lt-mul {k = width / cell_side} {x = c} {y = height / cell_side} (omega (arith, wide.least))).0 (owned width height n c e).inside in
      omega (arith, mul_comm (width / cell_side) (height / cell_side))

  pub own_of : (c : ℕ) → c < cells width height → Owner width height c
  unfolding cells superblocks
  own_of c h =
      let w = width / cell_side in
      let across = superblocks_along width in
      let down = superblocks_along height in
      let s = c % w / side_cells in
      let r = c / w / side_cells in
      let some : 0 < w = omega (arith, wide.least) in
      let row : c / w < height / cell_side = (div-lt_iff_lt-mul {k = w} {x = c} {y = height / cell_side} some).1 (omega (arith, mul_comm w (height / cell_side))) in
      let left : s < across = along_inside (c % w) wide (mod-lt c some) in
      let rows = mul-le-mul_right {m = r + 1} {n = down} across (omega (arith, along_inside (c / w) high row)) in
      record {
        n = r * across + s;
        inside = omega (arith, rows, add-mul r 1 across, mul_comm across down);
        own =
            own-by width height (r * across + s) c
            (record {
              column = omega (arith, mul-add-mod_self_right r across s, mod-eq_of_lt left);
              row = omega (arith, mul-add-div_right {m = across} (omega arith) r s, div-eq_of_lt left);
              inside = row;
            });
      }

-- a block along a side of a superblock ends inside it
pub block_ends : {size : ℕ} → Tabled size → (side b m : ℕ) → m < blocks_along side size b → size / cell_side * m + size / cell_side ≤ side_cells
unfolding blocks_along
block_ends sixteen side b m h = omega arith
block_ends thirty_two side b m h = omega arith
block_ends sixty_four side b m h = omega arith

-- the places of a superblock's block, counted in blocks
module _ {width height size n : ℕ} (tabled : Tabled size) (wide : Side width) (high : Side height) (h : n < superblocks width height) (k : ℕ) (below : k < block_count width height size n) where
  pub column_below : k % blocks_along width size (superblock_x width n) < blocks_along width size (superblock_x width n)
  column_below = mod-lt k (across-some tabled wide high h)

  pub row_below : k / blocks_along width size (superblock_x width n) < blocks_along height size (superblock_y width n)
  unfolding block_count
  row_below =
      let across = blocks_along width size (superblock_x width n) in
      let down = blocks_along height size (superblock_y width n) in
      (div-lt_iff_lt-mul {k = across} {x = k} {y = down} (across-some tabled wide high h)).1 (omega (arith, mul_comm across down))

  -- a block's cells are its superblock's
  pub block_own : (c : ℕ) → covers width height size (block_x width size n k) (block_y width size n k) c ≡ true → own_cell width height n c ≡ true
  unfolding own_cell block_x block_y
  block_own c e =
      let at = covered width height size (block_x width size n k) (block_y width size n k) c e in
      let across = block_ends tabled width (superblock_x width n) _ column_below in
      let down = block_ends tabled height (superblock_y width n) _ row_below in
      covers-by width height superblock_side (superblock_x width n) (superblock_y width n) c
      (record {
        left = omega (arith, at.left);
        right = omega (arith, at.right);
        top = omega (arith, at.top);
        bottom = omega (arith, at.bottom);
        inside = at.inside;
      })
