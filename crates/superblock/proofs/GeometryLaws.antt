-- Where the blocks of a superblock lie: each in the frame and aligned, and no two on one cell. Assumes nothing.
use mathlib.Core.Path.{◌≡◌, sym, ap, subst, ◌∙◌}
use mathlib.Core.Bool.{Bool, false, ◌&&◌, and-false}
use mathlib.Core.Logic.{⊎_elim}
use Prim.Native.Nat.{ℕ, suc, ◌+◌, ◌-◌, ◌*◌, ◌/◌, ◌%◌, ◌≤◌, ◌<◌, min}
use native.Mathlib.Nat.{mul_comm, mul-suc, mul-le-mul, mul-le-mul_left, mod-lt, div-le_self, div-add-mod', le-div_iff_mul-le, div-lt_iff_lt-mul, eq-or-lt_of_le}
use native.Mathlib.Omega.{arith}
use borrow.Author.Tests.{le-ltb}
use lib.Dec.{leb, ltb}
use Rattle.motion.specs.declared.level.Level.{Level}
use Rattle.motion.specs.Limits.{cell_side, superblock_side}
use Rattle.motion.specs.Frame.{Side, Starts}
use Rattle.motion.specs.Level.{level_of}
use Rattle.motion.specs.Superblock.{superblocks_along, superblocks, superblock_x, superblock_y}
use Rattle.motion.proofs.AxisLaws.{multiple}
use Rattle.motion.proofs.LevelLaws.{each_level}
use Rattle.grid.specs.Grid.{cell_at}
use Rattle.grid.specs.Save.{up_to, covers}
use Rattle.grid.proofs.SaveLaws.{covers_at}
use Rattle.superblock.specs.Step.{blocks_along, block_count, block_x, block_y}

-- the block sizes of the table
pub data Tabled : ℕ → Type 0 where
  sixteen : Tabled 16
  thirty_two : Tabled 32
  sixty_four : Tabled 64

pub own-tabled : (level : ℕ) → Tabled (level_of level).mv_size
own-tabled level = each_level (λ (l : Level). Tabled l.mv_size) sixty_four thirty_two sixteen level

pub refined_tabled : (level : ℕ) → Tabled (level_of level).refined
refined_tabled level = each_level (λ (l : Level). Tabled l.refined) sixty_four sixty_four thirty_two level

pub tabled_bounds : {size : ℕ} → Tabled size → (0 < size) × (size ≤ superblock_side)
tabled_bounds sixteen = omega arith
tabled_bounds thirty_two = omega arith
tabled_bounds sixty_four = omega arith

-- the first cell of a superblock, on one axis
pub record Begins (side b : ℕ) : Type 0 where
  pub inside : cell_side * b < side
  pub aligned : (cell_side * b) % superblock_side ≡ 0

pub column_begins : {width : ℕ} → Side width → (n : ℕ) → Begins width (superblock_x width n)
unfolding superblock_x
column_begins {width} wide n =
    let few = mod-lt n {m = superblocks_along width} (omega (arith, wide.least)) in
    record { inside = omega (arith, wide.least); aligned = omega arith }

pub row-begins : {width height n : ℕ} → Side width → Side height → n < superblocks width height → Begins height (superblock_y width n)
unfolding superblock_y superblocks
row-begins {width} {height} {n} wide high h =
    let few = (div-lt_iff_lt-mul {k = superblocks_along width} {x = n} {y = superblocks_along height} (omega (arith, wide.least))).1 (omega (arith, mul_comm (superblocks_along width) (superblocks_along height))) in
    record { inside = omega (arith, high.least); aligned = omega arith }

pub row-most : (width n : ℕ) → superblock_y width n ≤ 16 * n
unfolding superblock_y
row-most width n = omega (arith, div-le_self n (superblocks_along width))

-- a frame has at most 256 superblocks
pub superblocks-most : {width height : ℕ} → Side width → Side height → superblocks width height ≤ 256
unfolding superblocks
superblocks-most {width} {height} wide high =
    mul-le-mul {n₁ = superblocks_along width} {m₁ = superblocks_along height} {n₂ = 16} {m₂ = 16} (omega (arith, wide.most)) (omega (arith, high.most))

-- blocks of any size along a side of a superblock
pub along_some : {side size b : ℕ} → Begins side b → 0 < size → 0 < blocks_along side size b
unfolding blocks_along
along_some {side} {size} {b} begins p = (le-div_iff_mul-le {k = size} {x = 1} p).1 (omega (arith, begins.inside))

pub along_below : (side size b : ℕ) → size ≤ superblock_side → blocks_along side size b ≤ 127
unfolding blocks_along
along_below side size b h = omega (arith, div-le_self (min superblock_side (side - cell_side * b) + (size - 1)) size)

-- at most four of a size of the table
pub along_most : {size : ℕ} → Tabled size → (side b : ℕ) → blocks_along side size b ≤ 4
unfolding blocks_along
along_most sixteen side b = omega arith
along_most thirty_two side b = omega arith
along_most sixty_four side b = omega arith

starts_along : {side size b m : ℕ} → Tabled size → Side side → Begins side b → m < blocks_along side size b → Starts side size (b + size / cell_side * m)
unfolding blocks_along
starts_along {b = b} {m = m} sixteen s begins h =
    record { inside = omega (arith, s.whole, begins.inside); aligned = multiple 16 (4 * (cell_side * b / 64) + m) (cell_side * (b + 4 * m)) (omega (arith, begins.aligned)) }
starts_along {b = b} {m = m} thirty_two s begins h =
    record { inside = omega (arith, s.whole, begins.inside); aligned = multiple 32 (2 * (cell_side * b / 64) + m) (cell_side * (b + 8 * m)) (omega (arith, begins.aligned)) }
starts_along {b = b} {m = m} sixty_four s begins h =
    record { inside = omega (arith, s.whole, begins.inside); aligned = multiple 64 (cell_side * b / 64 + m) (cell_side * (b + 16 * m)) (omega (arith, begins.aligned)) }

-- a later block along a side begins where an earlier one has ended, or after that
later : (q b m n : ℕ) → m < n → up_to (b + q * m) (b + q * m + q) (b + q * n) ≡ false
unfolding up_to
later q b m n h =
    let more = mul-le-mul_left {m = suc m} {n = n} q h in
    ap (λ (t : Bool). leb (b + q * m) (b + q * n) && t) (le-ltb (b + q * n) (b + q * m + q) (omega (arith, mul-suc q m)))
    ∙ and-false (leb (b + q * m) (b + q * n))

-- the blocks of a superblock of a frame
module _ {width height size n : ℕ} (tabled : Tabled size) (wide : Side width) (high : Side height) (h : n < superblocks width height) where
  pub across-some : 0 < blocks_along width size (superblock_x width n)
  across-some = along_some (column_begins wide n) (tabled_bounds tabled).0

  pub count_most : block_count width height size n ≤ 16
  unfolding block_count
  count_most =
      mul-le-mul {n₁ = blocks_along width size (superblock_x width n)} {m₁ = blocks_along height size (superblock_y width n)} {n₂ = 4} {m₂ = 4}
      (along_most tabled width (superblock_x width n)) (along_most tabled height (superblock_y width n))

  pub placed : (k : ℕ) → k < block_count width height size n → Starts width size (block_x width size n k) × Starts height size (block_y width size n k)
  unfolding block_count block_x block_y
  placed k below =
      let across = blocks_along width size (superblock_x width n) in
      let down = blocks_along height size (superblock_y width n) in (
        starts_along tabled wide (column_begins wide n) (mod-lt k across-some),
        starts_along tabled high (row-begins wide high h) ((div-lt_iff_lt-mul {k = across} {x = k} {y = down} across-some).1 (omega (arith, mul_comm across down))),
      )

  pub placed_at : {bx by : ℕ} (k : ℕ) → k < block_count width height size n → bx ≡ block_x width size n k → by ≡ block_y width size n k → Starts width size bx × Starts height size by
  placed_at k below column-is row_is =
      (subst (Starts width size) (sym column-is) (placed k below).0, subst (Starts height size) (sym row_is) (placed k below).1)

  -- no block covers the first cell of a later one
  pub apart : (j k : ℕ) → j < k → k < block_count width height size n → covers width height size (block_x width size n j) (block_y width size n j) (cell_at width (block_x width size n k) (block_y width size n k)) ≡ false
  unfolding block_x block_y
  apart j k order below =
      let across = blocks_along width size (superblock_x width n) in
      let q = size / cell_side in
      let x = superblock_x width n in
      let y = superblock_y width n in
      let rows : j / across ≤ k / across = (le-div_iff_mul-le {k = across} {x = j / across} {y = k} across-some).1 (omega (arith, div-add-mod' j across)) in
      let rest = ltb (y + q * (k / across)) (height / cell_side) in
      covers_at width height size (block_x width size n j) (block_y width size n j) (block_x width size n k) (block_y width size n k) (placed k below).0.inside
      ∙ ⊎_elim
      (λ same. ap (λ (t : Bool). t && (up_to (y + q * (j / across)) (y + q * (j / across) + q) (y + q * (k / across)) && rest))
      (later q x (j % across) (k % across) (omega (arith, div-add-mod' j across, div-add-mod' k across, ap (λ (m : ℕ). m * across) same))))
      (λ less. ap (λ (t : Bool). up_to (x + q * (j % across)) (x + q * (j % across) + q) (x + q * (k % across)) && (t && rest)) (later q y (j / across) (k / across) less)
      ∙ and-false (up_to (x + q * (j % across)) (x + q * (j % across) + q) (x + q * (k % across))))
      (eq-or-lt_of_le rows)
