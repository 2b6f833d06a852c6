-- Every accepted list gives the raster grid. Assumes nothing.
use mathlib.Core.Path.{◌≡◌, refl, sym, ap, ap₂, ◌∙◌}
use mathlib.Core.Bool.{Bool, false, ◌||◌}
use mathlib.Core.List.{List, [], ◌∷◌}
use Prim.Native.Nat.{ℕ, ◌<◌}
use Rattle.motion.specs.Frame.{Side}
use Rattle.motion.specs.Superblock.{superblocks_along, superblocks}
use Rattle.grid.specs.Grid.{Grid}
use Rattle.grid.specs.Previous.{Previous}
use Rattle.estimate.specs.Inputs.{Inputs, Planes}
use Rattle.superblock.specs.Step.{step}
use Rattle.frame.specs.Run.{level_run, inputs_at, frame_run}
use Rattle.order.specs.List.{shares_edge, raster, list_refusal}
use Rattle.order.specs.Fold.{fold_steps}
use Rattle.order.proofs.Accepted.{Accepted, accepted}
use Rattle.order.proofs.FoldLaws.{accepted-folds}
use Rattle.theorems.specs.Cells.{beside}
use Rattle.theorems.proofs.Commute.{steps_commute}

-- steps on any two different superblocks below n that share no edge commute
abbrev pub Commuting : (ℕ → Grid → Grid) → ℕ → ℕ → Type 0
Commuting step across n =
    (a b : ℕ) → a < n → b < n → (a ≡ b → ⊥) → shares_edge across a b ≡ false → shares_edge across b a ≡ false → (g : Grid) → step a (step b g) ≡ step b (step a g)

pub level-commutes : (i : Inputs) (p : Previous) → Side i.width → Side i.height → Commuting (step i p) (superblocks_along i.width) (superblocks i.width i.height)
unfolding beside
level-commutes i p wide high a b ha hb other one back g =
    steps_commute i p wide high a b ha hb other (ap₂ (λ (s t : Bool). s || t) one back) g

-- a list that the test of 6 and 7 accepts
abbrev pub AcceptedList : ℕ → ℕ → List ℕ → Type 0
AcceptedList width height list = list_refusal (superblocks_along width) (superblocks_along height) list ≡ 0

-- a frame's list, in propositions
pub accepted-list : (width height : ℕ) (list : List ℕ) → AcceptedList width height list → Accepted (superblocks_along width) (superblocks width height) list
unfolding superblocks
accepted-list width height list h = accepted (superblocks_along width) (superblocks_along height) list h

-- a level is a fold of its steps
run-is_fold : (i : Inputs) (p : Previous) (list : List ℕ) (g : Grid) → level_run i p list g ≡ fold_steps (step i p) list g
unfolding level_run fold_steps
run-is_fold i p [] g = refl
run-is_fold i p (n ∷ ns) g = run-is_fold i p ns (step i p n g)

-- one level
pub level-order : (i : Inputs) (p : Previous) → Side i.width → Side i.height → (list : List ℕ) → AcceptedList i.width i.height list → (g : Grid) → level_run i p list g ≡ level_run i p (raster (superblocks i.width i.height)) g
level-order i p wide high list taken g =
    run-is_fold i p list g
    ∙ accepted-folds (superblocks_along i.width) (superblocks i.width i.height) list (accepted-list i.width i.height list taken) (step i p) (level-commutes i p wide high) g
    ∙ sym (run-is_fold i p (raster (superblocks i.width i.height)) g)

-- levels 4, 3, 2
pub order : (width height : ℕ) → Side width → Side height → (cur ref : Planes) (weight : ℕ) (p : Previous) (list : List ℕ) → AcceptedList width height list → (g : Grid) → frame_run width height cur ref weight p list g ≡ frame_run width height cur ref weight p (raster (superblocks width height)) g
unfolding frame_run inputs_at
order width height wide high cur ref weight p list taken g =
    let at : ℕ → Inputs = inputs_at width height cur ref weight in
    let level : (l : ℕ) (g : Grid) → level_run (at l) p list g ≡ level_run (at l) p (raster (superblocks width height)) g = λ l g. level-order (at l) p wide high list taken g in
    ap (λ (g : Grid). level_run (at 2) p list (level_run (at 3) p list g)) (level 4 g) ∙ ap (level_run (at 2) p list) (level 3 _) ∙ level 2 _
