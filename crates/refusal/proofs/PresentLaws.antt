-- Laws of a previous grid and of what a C call passes for it: the tests and the grid meant are the same. Assumes nothing.
use Rattle.std.proofs.Common.{◌≡◌, ℕ, Bool, true, false, not, eqb, cond, refl, sym, ap, ◌∙◌}
use Rattle.grid.specs.Grid.{Grid, room}
use Rattle.grid.specs.Previous.{Previous, previous}
use Rattle.grid.specs.Lent.{SamePrevious}
use Rattle.refusal.specs.Refusals.{grids_hold, grids_fit}
use Rattle.refusal.specs.Present.{present_of}
use Rattle.refusal.proofs.GridsLaws.{fit-is}

-- it means that grid
pub previous-is : (p : Previous) → previous (present_of p) p.grid ≡ p
unfolding previous present_of
previous-is p = λ i. record { present = told p.present i; grid = p.grid }
  where
    told : (t : Bool) → not (eqb (cond t 1 0) 0) ≡ t
    told true = refl
    told false = refl

pub meant : (p : Previous) → SamePrevious p (previous (present_of p) p.grid)
unfolding previous present_of
meant p = record { present = ap (λ (q : Previous). q.present) (sym (previous-is p)); grid = λ e. ap (λ (q : Previous). q.grid) (sym (previous-is p)) }

pub fit-of : (width height n : ℕ) (p : Previous) → grids_fit width height p n ≡ grids_hold width height (present_of p) (room p.grid) n
fit-of width height n p = fit-is width height (present_of p) n p.grid p (meant p)

-- and the tests of two calls that mean the same are the same
pub hold-is : (width height present n : ℕ) (g : Grid) (p : Previous) → SamePrevious p (previous present g) → grids_hold width height (present_of p) (room p.grid) n ≡ grids_hold width height present (room g) n
hold-is width height present n g p same = sym (fit-of width height n p) ∙ fit-is width height present n g p same
