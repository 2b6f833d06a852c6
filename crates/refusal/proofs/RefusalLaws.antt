-- What a call may count on where tests passed, and which number it gets where one did not. Assumes nothing.
use mathlib.Core.Path.{◌≡◌, refl, sym, ap, subst, ◌∙◌}
use mathlib.Core.Bool.{Bool, true, false, ◌&&◌, ◌||◌, cond}
use mathlib.Core.Logic.{⊎_elim}
use Prim.Native.Nat.{ℕ, zero, suc, ◌*◌, ◌/◌, ◌%◌, ◌≤◌, ◌<◌, min}
use native.Mathlib.Omega.{arith}
use borrow.Author.Tests.{leb-true, le-leb, ltb-true, eqb-true}
use lib.Dec.{leb, ltb, eqb}
use lib.ListN.{length}
use Rattle.ground.proofs.TestLaws.{both, either}
use Rattle.motion.specs.Limits.{side_step, largest_side, cell_side}
use Rattle.motion.specs.Level.{level4, level3, level2, level_of}
use Rattle.motion.specs.Frame.{Side, Starts, Sized, Placed, own4, own3, own2, refined3, refined2}
use Rattle.motion.specs.Block.{plane_of}
use Rattle.motion.proofs.LevelLaws.{each_level}
use Rattle.grid.specs.Grid.{Grid, Held, cells, room}
use Rattle.refusal.specs.Refusals.{refuse, ◌then◌, side_ok, level_ok, size_of, start_ok, plane_ok, block_refusal, planes_refusal, grid_ok}

-- no number at all: the first test passed, and no later one refused
pub first-passed : (n : ℕ) (t : Bool) (later : ℕ) → refuse (suc n) t then later ≡ 0 → (t ≡ true) × (later ≡ 0)
unfolding refuse ◌then◌
first-passed n true later e = (refl, e)
first-passed n false later e = absurd (omega arith)

pub passes : (n : ℕ) (t : Bool) → refuse (suc n) t ≡ 0 → t ≡ true
unfolding refuse
passes n true e = refl
passes n false e = absurd (omega arith)

pub refuse-is : (n : ℕ) (t : Bool) → t ≡ false → refuse n t ≡ n
unfolding refuse
refuse-is n t e = rw e

-- the first of two numbers that is not 0
pub then_first : (n later : ℕ) → (n ≡ 0 → ⊥) → n then later ≡ n
unfolding ◌then◌
then_first zero later h = absurd (h refl)
then_first (suc n) later h = refl

pub then_later : (n later : ℕ) → n ≡ 0 → n then later ≡ later
unfolding ◌then◌
then_later n later e = ap (λ (m : ℕ). m then later) e

-- a code that is the first of two numbers
pub first-is : {code n : ℕ} (later : ℕ) → code ≡ n → (code ≡ 0 → ⊥) → code ≡ n then later
first-is {code} {n} later e h = e ∙ sym (then_first n later (λ z. h (e ∙ z)))

pub none_of : (n later : ℕ) → n then later ≡ 0 → (n ≡ 0) × (later ≡ 0)
unfolding ◌then◌
none_of zero later e = (refl, e)
none_of (suc n) later e = absurd (omega arith)

pub side_of : (n : ℕ) → side_ok n ≡ true → Side n
unfolding side_ok
side_of n h =
    let whole = both (eqb (n % side_step) 0) (leb side_step n && leb n largest_side) h in
    let ends = both (leb side_step n) (leb n largest_side) whole.1 in
    record { whole = eqb-true (n % side_step) 0 whole.0; least = leb-true side_step n ends.0; most = leb-true n largest_side ends.1 }

pub starts_of : (side size b : ℕ) → start_ok side size b ≡ true → Starts side size b
unfolding start_ok
starts_of side size b h =
    let parts = both (ltb b (side / cell_side)) (eqb ((cell_side * b) % size) 0) h in
    record { inside = ltb-true b (side / cell_side) parts.0; aligned = eqb-true ((cell_side * b) % size) 0 parts.1 }

-- a level that passes has a row of the table, at its own size or at the refined one
at2 : (t : Bool) → Sized level2 (cond t 16 32)
at2 true = own2
at2 false = refined2

at3 : (t : Bool) → Sized level3 (cond t 32 64)
at3 true = own3
at3 false = refined3

at4 : (t : Bool) → Sized level4 (cond t 64 64)
at4 true = own4
at4 false = own4

pub sized_of : (level refined : ℕ) → level_ok level refined ≡ true → Sized (level_of level) (size_of level refined)
unfolding level_ok level_of size_of
sized_of level refined h =
    let own = eqb refined 0 in
    ⊎_elim (λ e. at level 2 (eqb-true level 2 e) (at2 own))
    (λ r.
    ⊎_elim (λ e. at level 3 (eqb-true level 3 e) (at3 own))
    (λ q. at level 4 (eqb-true level 4 (both (eqb level 4) own q).0) (at4 own))
    (either (eqb level 3) (eqb level 4 && own) r))
    (either (eqb level 2) (eqb level 3 || (eqb level 4 && own)) h)
  where
    at : (m n : ℕ) → m ≡ n → Sized (level_of n) (size_of n refined) → Sized (level_of m) (size_of m refined)
    at m n e s = subst (λ (k : ℕ). Sized (level_of k) (size_of k refined)) (sym e) s

-- what refusals 1 to 3 leave
pub accepted : (width height level refined bx by : ℕ) → block_refusal width height level refined bx by ≡ 0 → Placed width height (level_of level) (size_of level refined) bx by
unfolding block_refusal
accepted width height level refined bx by e =
    let size = size_of level refined in
    let starts = start_ok width size bx && start_ok height size by in
    let one = first-passed 0 (side_ok width && side_ok height) (refuse 2 (level_ok level refined) then refuse 3 starts) e in
    let two = first-passed 1 (level_ok level refined) (refuse 3 starts) one.1 in
    let three = both (start_ok width size bx) (start_ok height size by) (passes 2 starts two.1) in
    let sides = both (side_ok width) (side_ok height) one.0 in
    record {
      wide = side_of width sides.0;
      high = side_of height sides.1;
      sized = sized_of level refined two.0;
      across = starts_of width size bx three.0;
      down = starts_of height size by three.1;
    }

-- what refusal 4 leaves
pub record Lent (width height level n m : ℕ) : Type 0 where
  pub cur : (plane_of width height (level_of level)).stride * (plane_of width height (level_of level)).rows ≤ n
  pub ref : (plane_of width height (level_of level)).stride * (plane_of width height (level_of level)).rows ≤ m

pub lent : (width height level n m : ℕ) → planes_refusal width height level n m ≡ 0 → Lent width height level n m
unfolding planes_refusal plane_ok
lent width height level n m e =
    let parts = both (plane_ok width height level n) (plane_ok width height level m) (passes 3 (plane_ok width height level n && plane_ok width height level m) e) in
    record { cur = leb-true _ n parts.0; ref = leb-true _ m parts.1 }

-- and the only number that it gives
pub planes_short : (width height level n m : ℕ) → (planes_refusal width height level n m ≡ 0 → ⊥) → planes_refusal width height level n m ≡ 4
unfolding planes_refusal refuse
planes_short width height level n m h = go (plane_ok width height level n && plane_ok width height level m) h
  where
    go : (t : Bool) → (◌≡◌ {A = ℕ} (cond t 0 4) 0 → ⊥) → ◌≡◌ {A = ℕ} (cond t 0 4) 4
    go true h = absurd (h refl)
    go false h = refl

-- what refusal 5 leaves, and where it does not come
pub held : (width height : ℕ) (g : Grid) → grid_ok width height (room g) ≡ true → Held width height g
unfolding grid_ok room
held width height g e =
    let enough = leb-true (cells width height) (min (length g.rows) (min (length g.cols) (length g.sads))) e in
    record { rows = omega (arith, enough); cols = omega (arith, enough); sads = omega (arith, enough) }

pub holds : {width height : ℕ} {g : Grid} → Held width height g → grid_ok width height (room g) ≡ true
unfolding grid_ok room
holds {width} {height} {g} h = le-leb (cells width height) (min (length g.rows) (min (length g.cols) (length g.sads))) (omega (arith, h))

-- sizes are of the table, whatever the numbers
pub size_bounds : (level refined : ℕ) → (0 < size_of level refined) × (size_of level refined ≤ 64)
unfolding size_of
size_bounds level refined = go (eqb refined 0)
  where
    go : (t : Bool) → (0 < cond t (level_of level).mv_size (level_of level).refined) × (cond t (level_of level).mv_size (level_of level).refined ≤ 64)
    go true = each_level (λ l. (0 < l.mv_size) × (l.mv_size ≤ 64)) (omega arith) (omega arith) (omega arith) level
    go false = each_level (λ l. (0 < l.refined) × (l.refined ≤ 64)) (omega arith) (omega arith) (omega arith) level

pub row-bounds : (level : ℕ) → ((level_of level).ssdec ≤ 2) × ((level_of level).pad ≤ 48)
row-bounds level = each_level (λ l. (l.ssdec ≤ 2) × (l.pad ≤ 48)) (omega arith) (omega arith) (omega arith) level
