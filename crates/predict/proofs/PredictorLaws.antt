-- Laws of predictors: a clamped component, those of some cells, their count, one more, and one more in its slot. Assumes nothing.
use mathlib.Core.Path.{◌≡◌, sym, ap, ◌∙◌}
use mathlib.Core.List.{List, [], ◌∷◌, ◌++◌, map-append}
use Prim.Native.Nat.{ℕ, ◌+◌, ◌≤◌, ◌<◌}
use native.Mathlib.Numerals.{add-one}
use native.Mathlib.Omega.{arith}
use lib.ListN.{length, take, get_or, set, length-map}
use lib.Seq.{length-take-le, take-suc}
use lib.IntN.{ℤ}
use lib.Signed.{◌≤ℤ◌}
use Rattle.std.specs.Int.{int_max, int_min}
use Rattle.std.proofs.lemmas.Int.{ints}
use Rattle.motion.specs.declared.range.MvRange.{MvRange}
use Rattle.motion.specs.Vector.{zero_v}
use Rattle.grid.specs.Grid.{Grid, stats_at}
use Rattle.sampled.specs.Slots.{slots, slotted}
use Rattle.sampled.proofs.SlotLaws.{slots_next}
use Rattle.predict.specs.Predictors.{clamp_to, predictor, predictors_at}

-- the library's clamp, between ends in their order
pub clamp-is : (z low high : ℤ) → low ≤ℤ high → int_max low (int_min z high) ≡ clamp_to z low high
unfolding clamp_to
clamp-is z low high h = grind (arith, ints)

module _ (r : MvRange) (s : ℕ) (g : Grid) where
  pub predictors-count : (is : List ℕ) → length (predictors_at r s g is) ≡ length is
  unfolding predictors_at
  predictors-count is = length-map is (λ i. predictor r s (stats_at g i).mv)

  pub predictors-more : (is : List ℕ) (i : ℕ) → predictors_at r s g (is ++ (i ∷ [])) ≡ predictors_at r s g is ++ (predictor r s (stats_at g i).mv ∷ [])
  unfolding predictors_at
  predictors-more is i = map-append (λ k. predictor r s (stats_at g k).mv) is (i ∷ [])

  -- the predictor of the next cell, in the next slot
  pub predictors-next : (at : List ℕ) (k : ℕ) → k < length at → length at ≤ slots
      → set (slotted zero_v (predictors_at r s g (take k at))) k (predictor r s (stats_at g (get_or at k 0)).mv) ≡ slotted zero_v (predictors_at r s g (take (k + 1) at))
  predictors-next at k inside most =
      let vs = predictors_at r s g (take k at) in
      let v = predictor r s (stats_at g (get_or at k 0)).mv in
      let count : length vs ≡ k = predictors-count (take k at) ∙ length-take-le k at (omega arith) in
      rw (add-one, take-suc at k 0, predictors-more (take k at))
      (ap (λ (n : ℕ). set (slotted zero_v vs) n v) (sym count) ∙ slots_next zero_v vs v (omega arith))
