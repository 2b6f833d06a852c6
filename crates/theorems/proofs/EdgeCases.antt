-- The cases at the edges of document 01. Assumes nothing.
use mathlib.Core.Path.{◌≡◌, refl, ap, ◌∙◌}
use mathlib.Core.List.{List, [], ◌∷◌}
use Prim.Native.Nat.{ℕ, ◌*◌, ◌/◌, ◌^◌}
use Rattle.ground.specs.Every.{all_below, all_in}
use Rattle.motion.specs.Range.{mv_min, mv_max, clip, range_of}
use Rattle.motion.specs.Rate.{bit_length_in, bit_length, rate}
use Rattle.motion.specs.Vector.{fullpel}
use Rattle.motion.specs.Level.{level_of}
use Rattle.motion.specs.Block.{cropped_to, block_of}
use Rattle.refusal.proofs.RefusalLaws.{then_later}
use Rattle.search.specs.Hexagon.{hexagon_three}
use Rattle.predict.specs.Predictors.{least_of, minimum_sad}
use Rattle.estimate.specs.Block.{stats_of}
use Rattle.order.specs.List.{times, names_each, before, shares_edge, all_earlier, keeps_raster, list_refusal}
use Rattle.inter.specs.Runs.{run_refusal}
use Rattle.theorems.specs.Edges.{Answers, EdgeCases}

-- a run that its other tests let through is refused as its list is
run-answers : (list : List ℕ) {number : ℕ} → list_refusal 2 1 list ≡ number → Answers list number
unfolding run_refusal
run-answers list e cur ref present prev g tests = then_later _ _ tests ∙ e

pub edge_cases : EdgeCases
unfolding block_of cropped_to level_of range_of clip mv_min mv_max rate bit_length bit_length_in fullpel stats_of minimum_sad least_of hexagon_three list_refusal names_each keeps_raster all_earlier shares_edge before all_in all_below times
edge_cases =
    record {
      e1 = λ height by. (refl, refl);
      e2 = λ height by. (refl, refl);
      e3 = (refl, refl, refl, refl, refl);
      e4 = (refl, refl);
      e5 = (refl, refl, refl);
      e6 = (λ s best e. ap (λ (sad : ℕ). sad * 2 ^ 14 / (16 * 16)) e, refl);
      e7 = (λ s best e. ap (λ (sad : ℕ). sad * 2 ^ 14 / (6 * 16)) e, refl);
      e8 = (λ rd centre. refl, λ rd centre. refl);
      e9 = refl;
      e10 = (run-answers (0 ∷ 1 ∷ []) refl, run-answers (1 ∷ 0 ∷ []) refl, run-answers (0 ∷ 0 ∷ []) refl, run-answers [] refl);
    }
