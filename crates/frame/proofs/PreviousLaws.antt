-- An absent previous grid's cells are never read. Assumes nothing.
use Rattle.std.proofs.Common.{◌≡◌, ℕ, List, [], ◌∷◌, refl, ap, ◌∙◌}
use Rattle.grid.specs.Grid.{Grid}
use Rattle.grid.specs.Previous.{Previous}
use Rattle.grid.specs.Lent.{SamePrevious}
use Rattle.estimate.specs.Inputs.{Inputs, Planes}
use Rattle.superblock.specs.Step.{step}
use Rattle.superblock.proofs.PreviousLaws.{step-same_previous}
use Rattle.frame.specs.Run.{level_run, inputs_at, frame_run}

-- so the steps of a level come out the same whatever they are
level_run-same_previous : (i : Inputs) {p q : Previous} (list : List ℕ) (g : Grid) → SamePrevious p q → level_run i p list g ≡ level_run i q list g
unfolding level_run
level_run-same_previous i [] g same = refl
level_run-same_previous i {p} {q} (n ∷ ns) g same =
    ap (level_run i p ns) (step-same_previous i n g same) ∙ level_run-same_previous i ns (step i q n g) same

-- and so does a frame run
pub frame_run-same_previous : (width height : ℕ) (cur ref : Planes) (weight : ℕ) {p q : Previous} (list : List ℕ) (g : Grid) → SamePrevious p q
    → frame_run width height cur ref weight p list g ≡ frame_run width height cur ref weight q list g
unfolding frame_run
frame_run-same_previous width height cur ref weight {p} {q} list g same =
    let at : ℕ → Inputs = inputs_at width height cur ref weight in
    let four = level_run-same_previous (at 4) list g same in
    let three = ap (level_run (at 3) p list) four ∙ level_run-same_previous (at 3) list (level_run (at 4) q list g) same in
    ap (level_run (at 2) p list) three ∙ level_run-same_previous (at 2) list (level_run (at 3) q list (level_run (at 4) q list g)) same
