-- An absent previous grid's cells are never read. Assumes nothing.
use Rattle.std.proofs.Common.{◌≡◌, ℕ, cond, ap}
use Rattle.motion.specs.Level.{level_of}
use Rattle.grid.specs.Grid.{Grid}
use Rattle.grid.specs.Previous.{Previous}
use Rattle.grid.specs.Lent.{SamePrevious}
use Rattle.estimate.specs.Inputs.{Inputs}
use Rattle.estimate.proofs.PreviousLaws.{estimate_motion-same_previous}
use Rattle.superblock.specs.Step.{block_count, worked, windows_ok, refinements, estimates, step}

-- so the blocks of a superblock come out the same whatever they are
estimates-same_previous : (i : Inputs) {p q : Previous} (n : ℕ) (g : Grid) → SamePrevious p q → estimates i p n g ≡ estimates i q n g
unfolding estimates
estimates-same_previous i n g same =
    let size = (level_of i.level).mv_size in
    λ j. worked (λ (bx by : ℕ) (now : Grid). estimate_motion-same_previous i bx by now same j) i.width i.height size n (block_count i.width i.height size n) g

-- and so does a step
pub step-same_previous : (i : Inputs) {p q : Previous} (n : ℕ) (g : Grid) → SamePrevious p q → step i p n g ≡ step i q n g
unfolding step
step-same_previous i n g same =
    ap (λ (next : Grid). cond (windows_ok i.width i.height i.level n g.rows g.cols) next g) (estimates-same_previous i n (refinements i n g) same)
