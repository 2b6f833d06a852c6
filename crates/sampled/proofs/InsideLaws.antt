-- Every cell that a block samples is one of the frame's. Assumes nothing.
use mathlib.Core.Path.{◌≡◌, refl}
use mathlib.Core.Bool.{Bool, true, false, not, ◌&&◌}
use mathlib.Core.List.{List, [], ◌∷◌, ◌++◌}
use Prim.Native.Nat.{ℕ, zero, suc, ◌+◌, ◌-◌, ◌*◌, ◌/◌, ◌≤◌, ◌<◌, min}
use native.Mathlib.Omega.{arith}
use borrow.Author.Tests.{ltb-true}
use lib.Dec.{ltb, eqb}
use lib.ListN.{length, get_or}
use Rattle.ground.proofs.TestLaws.{both}
use Rattle.motion.specs.declared.level.Level.{Level}
use Rattle.motion.specs.Limits.{cell_side}
use Rattle.motion.specs.Level.{level_of}
use Rattle.motion.specs.Frame.{Side, Starts, Sized, Placed, own4, own3, own2, refined3, refined2}
use Rattle.motion.specs.Block.{cropped_to}
use Rattle.motion.proofs.AxisLaws.{fitting}
use Rattle.grid.specs.Grid.{cells}
use Rattle.grid.proofs.CellLaws.{cell-inside}
use Rattle.sampled.specs.Sampled.{cells_along, taken, neighbours, centre_cell, odd_block, cells_b, cells_c, cells_centre}

-- every number of a list is below n
record Below (n : ℕ) (is : List ℕ) : Type 0 where
  each : (k : ℕ) → k < length is → get_or is k 0 < n

taken-below : {n : ℕ} (t : Bool) {i : ℕ} → (t ≡ true → i < n) → Below n (taken t i)
unfolding taken
taken-below {n} true {i} h = record { each = only }
  where
    only : (k : ℕ) → k < 1 → get_or (i ∷ []) k 0 < n
    only zero g = h refl
    only (suc k) g = absurd (omega arith)
taken-below false h = record { each = λ k g. absurd (omega arith) }

append_below : {n : ℕ} {xs ys : List ℕ} → Below n xs → Below n ys → Below n (xs ++ ys)
append_below {n} {xs} {ys} hx hy = record { each = go xs hx.each }
  where
    go : (xs : List ℕ) → ((k : ℕ) → k < length xs → get_or xs k 0 < n) → (k : ℕ) → k < length (xs ++ ys) → get_or (xs ++ ys) k 0 < n
    go [] h k g = hy.each k g
    go (x ∷ xs) h zero g = h zero (omega arith)
    go (x ∷ xs) h (suc k) g = go xs (λ j f. h (suc j) (omega arith)) k (omega arith)

size_least : {l : Level} {size : ℕ} → Sized l size → 16 ≤ size
size_least own4 = omega arith
size_least own3 = omega arith
size_least own2 = omega arith
size_least refined3 = omega arith
size_least refined2 = omega arith

-- one axis of a block: sides are multiples of 8, so that even a cropped block is two cells long, and half of it ends before its last cell
module _ {l : Level} {size side b : ℕ} (sized : Sized l size) (frame : Side side) (starts : Starts side size b) where
  pub middle-inside : b + cells_along side size b / 2 < side / cell_side
  unfolding cells_along cropped_to
  middle-inside =
      let start = (fitting sized).steps (cell_side * b) starts.aligned in
      omega (arith, start, size_least sized, frame.whole, starts.inside)

  -- the clip of the Rust changes nothing
  pub half-inside : min (cells_along side size b / 2) (side / cell_side - 1 - b) ≡ cells_along side size b / 2
  half-inside = omega (arith, middle-inside)

-- right and bottom are taken only inside
asked : (t : Bool) (m n : ℕ) → t && ltb m n ≡ true → m < n
asked t m n e = ltb-true m n (both t (ltb m n) e).1

module _ {width height : ℕ} {l : Level} {size bx by : ℕ} (p : Placed width height l size bx by) where
  across : bx + cells_along width size bx / 2 < width / cell_side
  across = middle-inside p.sized p.wide p.across

  down : by + cells_along height size by / 2 < height / cell_side
  down = middle-inside p.sized p.high p.down

  pub middle-cell : centre_cell width height size bx by < cells width height
  unfolding centre_cell
  middle-cell = cell-inside width height _ _ across down

  neighbours-below : (right bottom : Bool) → Below (cells width height) (neighbours width height size bx by right bottom)
  unfolding neighbours
  neighbours-below right bottom =
      append_below
      (append_below
      (append_below (taken-below _ (λ e. cell-inside width height (bx - 1) _ (omega (arith, across)) down))
      (taken-below _ (λ e. cell-inside width height _ (by - 1) across (omega (arith, down)))))
      (taken-below _ (λ e. cell-inside width height _ _ (asked right _ _ e) down)))
      (taken-below _ (λ e. cell-inside width height _ _ across (asked bottom _ _ e)))

module _ (width height level bx by : ℕ) (p : Placed width height (level_of level) (level_of level).mv_size bx by) where
  pub b-inside : (k : ℕ) → k < length (cells_b width height level bx by) → get_or (cells_b width height level bx by) k 0 < cells width height
  unfolding cells_b
  b-inside = (neighbours-below p (odd_block level bx) (odd_block level by)).each

  pub c_inside : (present : Bool) (k : ℕ) → k < length (cells_c width height level bx by present) → get_or (cells_c width height level bx by present) k 0 < cells width height
  unfolding cells_c taken
  c_inside true = (append_below (neighbours-below p true true) (taken-below true (λ e. middle-cell p))).each
  c_inside false = λ k g. absurd (omega arith)

  pub centre_inside : (k : ℕ) → k < length (cells_centre width height level bx by) → get_or (cells_centre width height level bx by) k 0 < cells width height
  unfolding cells_centre
  centre_inside = (taken-below (not (eqb level 4)) (λ e. middle-cell p)).each
