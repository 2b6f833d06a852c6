-- Steps in list order: one superblock more, that buffers keep their lengths, and what a run at a level asks. Assumes nothing.
use mathlib.Core.Path.{◌≡◌, refl, sym, ap, subst, ◌∙◌}
use mathlib.Core.List.{List, [], ◌∷◌, ◌++◌}
use Prim.Native.Nat.{ℕ, ◌+◌, ◌<◌}
use native.Mathlib.Numerals.{add-one}
use native.Mathlib.Omega.{arith}
use lib.ListN.{length, take, get_or}
use lib.Seq.{take-suc}
use Rattle.motion.specs.Superblock.{superblocks}
use Rattle.grid.specs.declared.lent.GridMut.{GridMut}
use Rattle.grid.specs.Grid.{Grid, Held}
use Rattle.grid.specs.Previous.{Previous, HeldIf}
use Rattle.grid.specs.Lent.{lent_mut, SameBuffers}
use Rattle.estimate.specs.Inputs.{Inputs, Planes}
use Rattle.superblock.specs.Step.{step}
use Rattle.superblock.proofs.StepLaws.{AsLong, long_none, long_more, held-long, step-long}
use Rattle.frame.specs.Run.{level_run, inputs_at}

module _ (i : Inputs) (p : Previous) where
  pub run_none : (g : Grid) → level_run i p [] g ≡ g
  unfolding level_run
  run_none g = refl

  pub run-last : (ns : List ℕ) (n : ℕ) (g : Grid) → level_run i p (ns ++ (n ∷ [])) g ≡ step i p n (level_run i p ns g)
  unfolding level_run
  run-last [] n g = refl
  run-last (m ∷ ns) n g = run-last ns n (step i p m g)

  pub run_more : (ns : List ℕ) (k : ℕ) (g : Grid) → k < length ns → level_run i p (take (k + 1) ns) g ≡ step i p (get_or ns k 0) (level_run i p (take k ns) g)
  run_more ns k g h =
      ap (λ (xs : List ℕ). level_run i p xs g) (ap (λ (m : ℕ). take m ns) (add-one k) ∙ take-suc ns k 0 h) ∙ run-last (take k ns) (get_or ns k 0) g

  pub run_long : (ns : List ℕ) (g : Grid) → AsLong g (level_run i p ns g)
  unfolding level_run
  run_long [] g = long_none g
  run_long (n ∷ ns) g = long_more (step-long i p n g) (run_long ns (step i p n g))

  pub held-run : {width height : ℕ} (ns : List ℕ) (g : Grid) → Held width height g → Held width height (level_run i p ns g)
  held-run ns g held = held-long (run_long ns g) held

-- a grid whose buffers stay in place holds what it held
pub held-same : {width height : ℕ} {g now : GridMut} → SameBuffers g now → Held width height (lent_mut g) → Held width height (lent_mut now)
held-same same held =
    record {
      rows = omega (arith, same.rows_length, held.rows);
      cols = omega (arith, same.cols_length, held.cols);
      sads = omega (arith, same.sads_length, held.sads);
    }

-- what a run at a level asks, of what is lent to that level
pub asked-there : (i : Inputs) {width height : ℕ} (cur ref : Planes) (weight level : ℕ) {p : Previous} (list : List ℕ) {g : Grid} → i ≡ inputs_at width height cur ref weight level
    → HeldIf width height p → Held width height g → ((k : ℕ) → k < length list → get_or list k 0 < superblocks width height)
    → HeldIf i.width i.height p × Held i.width i.height g × ((k : ℕ) → k < length list → get_or list k 0 < superblocks i.width i.height)
unfolding inputs_at
asked-there i cur ref weight level {p} list {g} lent_is held_if held in_frame =
    subst (λ (j : Inputs). HeldIf j.width j.height p × Held j.width j.height g × ((k : ℕ) → k < length list → get_or list k 0 < superblocks j.width j.height)) (sym lent_is) (held_if, held, in_frame)
