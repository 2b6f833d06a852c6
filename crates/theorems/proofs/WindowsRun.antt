-- In a run over an accepted list no refinement of any step has an empty window, so that every step of every level is taken.
-- Assumes nothing.
use mathlib.Core.Path.{◌≡◌, refl, sym, ap, ◌∙◌}
use mathlib.Core.Bool.{true, false, ◌&&◌}
use mathlib.Core.List.{List, [], ◌∷◌, ◌++◌}
use Prim.Native.Nat.{ℕ, suc, ◌+◌, ◌*◌, ◌/◌, ◌%◌, ◌≤◌, ◌<◌}
use native.Mathlib.Nat.{mul_comm, mod-lt, div-add-mod', div-lt_iff_lt-mul}
use native.Mathlib.Omega.{arith}
use lib.Dec.{ltb}
use Rattle.ground.proofs.TestLaws.{both, not_so}
use Rattle.motion.specs.Limits.{cell_side, superblock_side}
use Rattle.motion.specs.Frame.{Side}
use Rattle.motion.specs.Superblock.{superblocks_along, superblocks, superblock_x, superblock_y}
use Rattle.grid.specs.Grid.{Grid, Held, cell_at, stats_at}
use Rattle.grid.specs.Previous.{Previous}
use Rattle.grid.specs.Save.{up_to}
use Rattle.grid.proofs.SaveLaws.{up-to_true, covers_at}
use Rattle.estimate.specs.Inputs.{Inputs, inputs_of, Planes, plane_at}
use Rattle.superblock.specs.Step.{blocks_along, block_count, block_x, block_y, refinements, estimates, step}
use Rattle.superblock.proofs.GeometryLaws.{Tabled, sixteen, thirty_two, sixty_four, across-some, placed}
use Rattle.superblock.proofs.StepLaws.{held-long, step-taken, refinements-long}
use Rattle.frame.specs.Run.{level_run, inputs_at}
use Rattle.frame.proofs.RunLaws.{held-run}
use Rattle.order.specs.List.{times}
use Rattle.order.proofs.TimesLaws.{times-here, times-append}
use Rattle.order.proofs.Accepted.{accepted, occurs_below}
use Rattle.theorems.specs.Cells.{own_cell}
use Rattle.theorems.specs.Steps.{Windowed, RunWindowed}
use Rattle.theorems.proofs.OrderLaws.{AcceptedList}
use Rattle.theorems.proofs.WindowSome.{Refines, three-64, two-32}
use Rattle.theorems.proofs.StepReads.{step-outside}
use Rattle.theorems.proofs.EstimateStored.{Bytes}
use Rattle.theorems.proofs.WindowsAfter.{FirstsAgree, refines-tabled, windows_first, windows_after}

-- a block of a superblock begins less than 16 cells after it
near-along : {size : ℕ} → Tabled size → (side b m : ℕ) → m < blocks_along side size b → size / cell_side * m < 16
unfolding blocks_along
near-along sixteen side b m h = omega arith
near-along thirty_two side b m h = omega arith
near-along sixty_four side b m h = omega arith

module _ {width height size n : ℕ} (tabled : Tabled size) (wide : Side width) (high : Side height) (h : n < superblocks width height) (k : ℕ) (below : k < block_count width height size n) where
  near-column : (superblock_x width n ≤ block_x width size n k) × (block_x width size n k < superblock_x width n + 16)
  unfolding block_x
  near-column =
      let x = superblock_x width n in
      let across = blocks_along width size x in
      omega (arith, near-along tabled width x (k % across) (mod-lt k (across-some tabled wide high h)))

  near-row : (superblock_y width n ≤ block_y width size n k) × (block_y width size n k < superblock_y width n + 16)
  unfolding block_y block_count
  near-row =
      let across = blocks_along width size (superblock_x width n) in
      let y = superblock_y width n in
      let down = blocks_along height size y in
      let few = (div-lt_iff_lt-mul {k = across} {x = k} {y = down} (across-some tabled wide high h)).1 (omega (arith, mul_comm across down)) in
      omega (arith, near-along tabled height y (k / across) few)

  -- so its first cell is none of another superblock
  elsewhere_by : (m : ℕ) → own_cell width height m (cell_at width (block_x width size n k) (block_y width size n k)) ≡ true → m ≡ n
  unfolding own_cell superblock_x superblock_y
  elsewhere_by m e =
      let across = superblocks_along width in
      let x = block_x width size n k in
      let y = block_y width size n k in
      let sx = superblock_x width m in
      let sy = superblock_y width m in
      let met = sym (covers_at width height superblock_side sx sy x y (placed tabled wide high h k below).0.inside) ∙ e in
      let parts = both (up_to sx (sx + 16) x) (up_to sy (sy + 16) y && ltb y (height / cell_side)) met in
      let column = up-to_true sx (sx + 16) x parts.0 in
      let row = up-to_true sy (sy + 16) y (both (up_to sy (sy + 16) y) (ltb y (height / cell_side)) parts.1).0 in
      let mods : m % across ≡ n % across = omega (arith, near-column) in
      let divs : m / across ≡ n / across = omega (arith, near-row) in
      omega (arith, div-add-mod' m across, div-add-mod' n across, ap (λ (q : ℕ). q * across) divs)

  elsewhere : (m : ℕ) → (m ≡ n → ⊥) → own_cell width height m (cell_at width (block_x width size n k) (block_y width size n k)) ≡ false
  elsewhere m other = not_so _ (λ e. other (elsewhere_by m e))

-- where a superblock stands in an accepted list: none of it before or after, and all are of the frame
record Standing (width height : ℕ) (front : List ℕ) (n : ℕ) (back : List ℕ) : Type 0 where
  inside : n < superblocks width height
  none_before : times n front ≡ 0
  none_after : times n back ≡ 0
  before : (m : ℕ) → 0 < times m front → m < superblocks width height
  after : (m : ℕ) → 0 < times m back → m < superblocks width height

later : (m n : ℕ) (back : List ℕ) → times m back ≤ times m (n ∷ back)
unfolding times
later m n back = omega arith

standing : {width height : ℕ} {list : List ℕ} → AcceptedList width height list → (front : List ℕ) (n : ℕ) (back : List ℕ) → list ≡ front ++ n ∷ back → Standing width height front n back
unfolding superblocks
standing {width} {height} {list} listed front n back split =
    let order = accepted (superblocks_along width) (superblocks_along height) list listed in
    let parts : (m : ℕ) → times m list ≡ times m front + times m (n ∷ back) = λ m. ap (times m) split ∙ times-append m front (n ∷ back) in
    let inside = occurs_below order n (omega (arith, parts n, times-here n back)) in
    let once = order.once n inside in
    record {
      inside = inside;
      none_before = omega (arith, parts n, times-here n back);
      none_after = omega (arith, parts n, times-here n back);
      before = λ m q. occurs_below order m (omega (arith, parts m));
      after = λ m q. occurs_below order m (omega (arith, parts m, later m n back));
    }

run-append : (i : Inputs) (p : Previous) (xs ys : List ℕ) (g : Grid) → level_run i p (xs ++ ys) g ≡ level_run i p ys (level_run i p xs g)
unfolding level_run
run-append i p [] ys g = refl
run-append i p (x ∷ xs) ys g = run-append i p xs ys (step i p x g)

-- steps on others write none of a superblock's cells
run-outside : (i : Inputs) (p : Previous) → Side i.width → Side i.height → (n c : ℕ) → ((m : ℕ) → (m ≡ n → ⊥) → own_cell i.width i.height m c ≡ false) → (ns : List ℕ) → times n ns ≡ 0 → ((m : ℕ) → 0 < times m ns → m < superblocks i.width i.height) → (g : Grid) → stats_at (level_run i p ns g) c ≡ stats_at g c
unfolding level_run times
run-outside i p wide high n c others [] none inside g = refl
run-outside i p wide high n c others (x ∷ xs) none inside g =
    let other : x ≡ n → ⊥ = λ e. omega (arith, none, times-here n xs, ap (λ (m : ℕ). times n (m ∷ xs)) e) in
    run-outside i p wide high n c others xs (omega (arith, none)) (λ m q. inside m (omega (arith, q))) (step i p x g)
    ∙ step-outside i p wide high x (inside x (omega (arith, times-here x xs))) g c (others x other)

-- a level after one none of whose windows was empty
module _ {level size : ℕ} (r : Refines level size) (width height : ℕ) (cur ref : List ℕ) (weight : ℕ) (bytes : Bytes (inputs_of width height (suc level) cur ref weight)) (p : Previous) (list : List ℕ) (listed : AcceptedList width height list) (g : Grid) where
  firsts_left : Windowed (inputs_of width height (suc level) cur ref weight) p list g → (cur' ref' : List ℕ) (weight' : ℕ) (front back : List ℕ) (n : ℕ) → list ≡ front ++ n ∷ back → FirstsAgree width height size n (level_run (inputs_of width height level cur' ref' weight') p front (level_run (inputs_of width height (suc level) cur ref weight) p list g)) (estimates (inputs_of width height (suc level) cur ref weight) p n (refinements (inputs_of width height (suc level) cur ref weight) n (level_run (inputs_of width height (suc level) cur ref weight) p front g)))
  unfolding level_run
  firsts_left before cur' ref' weight' front back n split k below =
      let i = inputs_of width height (suc level) cur ref weight in
      let j = inputs_of width height level cur' ref' weight' in
      let wide = bytes.ready.wide in
      let high = bytes.ready.high in
      let one = standing listed front n back split in
      let c = cell_at width (block_x width size n k) (block_y width size n k) in
      let others = elsewhere (refines-tabled r) wide high one.inside k below in
      let first = level_run i p front g in
      run-outside j p wide high n c others front one.none_before one.before (level_run i p list g)
      ∙ ap (λ (xs : List ℕ). stats_at (level_run i p xs g) c) split
      ∙ ap (λ (h : Grid). stats_at h c) (run-append i p front (n ∷ back) g)
      ∙ run-outside i p wide high n c others back one.none_after one.after (step i p n first)
      ∙ ap (λ (h : Grid). stats_at h c) (step-taken i p n first (before front back n split))

  pub windowed_next : Held width height g → Windowed (inputs_of width height (suc level) cur ref weight) p list g → (cur' ref' : List ℕ) (weight' : ℕ) → Windowed (inputs_of width height level cur' ref' weight') p list (level_run (inputs_of width height (suc level) cur ref weight) p list g)
  windowed_next held before cur' ref' weight' front back n split =
      let i = inputs_of width height (suc level) cur ref weight in
      let j = inputs_of width height level cur' ref' weight' in
      let first = level_run i p front g in
      windows_after width height cur ref weight p (standing listed front n back split).inside (refinements i n first) (held-long (refinements-long i n first) (held-run i p front g held))
      (level_run j p front (level_run i p list g)) r bytes (firsts_left before cur' ref' weight' front back n split)

pub windowed_first : (width height : ℕ) (cur ref : List ℕ) (weight : ℕ) (p : Previous) (list : List ℕ) (g : Grid) → Windowed (inputs_of width height 4 cur ref weight) p list g
windowed_first width height cur ref weight p list g front back n split =
    windows_first width height n (level_run (inputs_of width height 4 cur ref weight) p front g).rows (level_run (inputs_of width height 4 cur ref weight) p front g).cols

pub run-windowed : (width height : ℕ) (cur ref : Planes) (weight : ℕ) → Bytes (inputs_at width height cur ref weight 4) → Bytes (inputs_at width height cur ref weight 3) → (p : Previous) (list : List ℕ) → AcceptedList width height list → (g : Grid) → Held width height g → RunWindowed width height cur ref weight p list g
unfolding inputs_at
run-windowed width height cur ref weight bytes4 bytes3 p list listed g held =
    let four = inputs_at width height cur ref weight 4 in
    let at4 = windowed_first width height (plane_at cur 4) (plane_at ref 4) weight p list g in
    let at3 = windowed_next three-64 width height (plane_at cur 4) (plane_at ref 4) weight bytes4 p list listed g held at4 (plane_at cur 3) (plane_at ref 3) weight in
    let at2 = windowed_next two-32 width height (plane_at cur 3) (plane_at ref 3) weight bytes3 p list listed (level_run four p list g) (held-run four p list g held) at3 (plane_at cur 2) (plane_at ref 2) weight in
    record { at4 = at4; at3 = at3; at2 = at2 }
