-- Laws of the least SAD: of no cells, of one more, and of two lists together. Assumes nothing.
use mathlib.Core.Path.{◌≡◌, sym, ap, ◌∙◌}
use mathlib.Core.List.{List, [], ◌∷◌, ◌++◌, map-append}
use Prim.Native.Nat.{ℕ, ◌+◌, ◌-◌, ◌^◌, ◌≤◌, ◌<◌, min}
use native.Mathlib.Nat.{le_refl}
use native.Mathlib.Numerals.{add-one}
use native.Mathlib.Omega.{arith}
use lib.ListN.{length, take, get_or}
use lib.Seq.{take-suc}
use Rattle.grid.specs.Grid.{Grid, stats_at}
use Rattle.predict.specs.Predictors.{sads_at, least_of}

-- no least is above that of no cells
pub least-most : (xs : List ℕ) → least_of xs ≤ 2 ^ 32 - 1
unfolding least_of
least-most [] = le_refl (2 ^ 32 - 1)
least-most (x ∷ xs) = omega (arith, least-most xs)

-- of two lists together
pub least-both : (xs ys : List ℕ) → least_of (xs ++ ys) ≡ min (least_of xs) (least_of ys)
unfolding least_of
least-both [] ys = omega (arith, least-most ys)
least-both (x ∷ xs) ys = omega (arith, least-both xs ys)

-- of one cell more
pub least_more : (g : Grid) (is : List ℕ) (i : ℕ) → least_of (sads_at g (is ++ (i ∷ []))) ≡ min (least_of (sads_at g is)) (stats_at g i).normalized_sad
unfolding least_of sads_at
least_more g is i =
    let sad : ℕ → ℕ = λ k. (stats_at g k).normalized_sad in
    ap least_of (map-append sad is (i ∷ [])) ∙ least-both (sads_at g is) (sad i ∷ []) ∙ omega (arith, least-most (sads_at g is))

-- of the next cell too
pub least-next : (g : Grid) (at : List ℕ) (k : ℕ) → k < length at → min (least_of (sads_at g (take k at))) (stats_at g (get_or at k 0)).normalized_sad ≡ least_of (sads_at g (take (k + 1) at))
least-next g at k h = rw (add-one, take-suc at k 0) (sym (least_more g (take k at) (get_or at k 0)))
