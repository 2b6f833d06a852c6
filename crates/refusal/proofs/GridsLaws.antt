-- What a call with a grid and a previous one may count on where refusal 5 did not come. Assumes nothing.
use mathlib.Core.Path.{◌≡◌, refl, ap}
use mathlib.Core.Bool.{Bool, true, false, not, ◌&&◌, ◌||◌}
use Prim.Native.Nat.{ℕ}
use native.Mathlib.Omega.{arith}
use lib.Dec.{eqb}
use Rattle.ground.proofs.TestLaws.{both}
use Rattle.grid.specs.Grid.{Grid, Held, room}
use Rattle.grid.specs.Previous.{Previous, HeldIf, previous}
use Rattle.grid.specs.Lent.{SamePrevious}
use Rattle.refusal.specs.Refusals.{grid_ok, grids_hold, grids_fit}
use Rattle.refusal.proofs.RefusalLaws.{held}

-- the grid, and a previous grid that is said to be present, hold the frame's cells
pub record GridsHeld (width height present : ℕ) (prev g : Grid) : Type 0 where
  pub before : HeldIf width height (previous present prev)
  pub held : Held width height g

pub grids_held : (width height present : ℕ) (prev g : Grid) → grids_hold width height present (room prev) (room g) ≡ true → GridsHeld width height present prev g
unfolding grids_hold previous
grids_held width height present prev g e =
    let parts = both (grid_ok width height (room g)) (eqb present 0 || grid_ok width height (room prev)) e in
    record {
      before = λ p. held width height prev (asked (eqb present 0) (grid_ok width height (room prev)) parts.1 p);
      held = held width height g parts.0;
    }
  where
    asked : (s t : Bool) → s || t ≡ true → not s ≡ true → t ≡ true
    asked true t e p = absurd (let z : ◌≡◌ {A = ℕ} 0 1 = cc in omega arith)
    asked false t e p = e

-- the same of a previous grid that is there or not
pub record Fitting (width height : ℕ) (p : Previous) (g : Grid) : Type 0 where
  pub before : HeldIf width height p
  pub held : Held width height g

pub fitting : (width height : ℕ) (p : Previous) (g : Grid) → grids_fit width height p (room g) ≡ true → Fitting width height p g
unfolding grids_fit
fitting width height p g e =
    let parts = both (grid_ok width height (room g)) (not p.present || grid_ok width height (room p.grid)) e in
    record {
      before = λ q. held width height p.grid (asked p.present (grid_ok width height (room p.grid)) parts.1 q);
      held = held width height g parts.0;
    }
  where
    asked : (s t : Bool) → not s || t ≡ true → s ≡ true → t ≡ true
    asked true t e p = e
    asked false t e p = absurd (let z : ◌≡◌ {A = ℕ} 0 1 = cc in omega arith)

-- it is the test of what the C call says of that grid
pub fit-is : (width height present n : ℕ) (g : Grid) (p : Previous) → SamePrevious p (previous present g) → grids_fit width height p n ≡ grids_hold width height present (room g) n
unfolding grids_fit grids_hold previous
fit-is width height present n g p same =
    ap (λ (t : Bool). grid_ok width height n && t)
    (same_test p.present (eqb present 0) _ _ same.present (λ e. ap (λ (h : Grid). grid_ok width height (room h)) (same.grid e)))
  where
    same_test : (s t a b : Bool) → s ≡ not t → (s ≡ true → a ≡ b) → not s || a ≡ (t || b)
    same_test true true a b e h = absurd (let z : ◌≡◌ {A = Bool} true false = e in cc)
    same_test true false a b e h = h refl
    same_test false true a b e h = refl
    same_test false false a b e h = absurd (let z : ◌≡◌ {A = Bool} false true = e in cc)
