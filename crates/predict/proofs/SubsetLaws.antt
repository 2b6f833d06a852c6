-- What a user of the predictors may take as given: two arrays of five, counts of at most five, and the zero vector in B; and that
-- two previous grids that are the same give the same. Assumes nothing.
use mathlib.Core.Path.{◌≡◌, refl, ap, ◌∙◌}
use mathlib.Core.Bool.{Bool, true, false}
use mathlib.Core.List.{[], ◌∷◌, ◌++◌}
use Prim.Native.Nat.{ℕ, ◌≤◌, ◌<◌}
use native.Mathlib.Omega.{arith}
use lib.ListN.{length, get_or, length-append}
use lib.Seq.{get_or-append_seam}
use Rattle.motion.specs.Vector.{zero_v}
use Rattle.motion.specs.Level.{level_of}
use Rattle.motion.specs.Block.{block_of}
use Rattle.grid.specs.Grid.{Grid}
use Rattle.grid.specs.Previous.{Previous}
use Rattle.grid.specs.Lent.{SamePrevious}
use Rattle.sampled.specs.Slots.{slots}
use Rattle.sampled.specs.Sampled.{cells_b, cells_c}
use Rattle.sampled.proofs.SampledLaws.{b-few, c_few}
use Rattle.sampled.proofs.SlotLaws.{slots-all, slots_read}
use Rattle.predict.specs.declared.predictors.MotionEstimationSubsets.{MotionEstimationSubsets}
use Rattle.predict.specs.Predictors.{predictors_at, sads_at, subsets_of}
use Rattle.predict.proofs.PredictorLaws.{predictors-count}

-- B and C fit their arrays, and B holds the zero vector
pub record Sound (p : MotionEstimationSubsets) : Type 0 where
  pub b-most : p.b_count ≤ slots
  pub c_most : p.c_count ≤ slots
  pub b-slots : length p.subset_b ≡ slots
  pub c_slots : length p.subset_c ≡ slots
  pub zero-at : ℕ
  pub zero-below : zero-at < p.b_count
  pub zero-there : get_or p.subset_b zero-at zero_v ≡ zero_v

pub subsets_sound : (width height level bx by : ℕ) (present : Bool) (prev g : Grid) → Sound (subsets_of width height level bx by present prev g)
unfolding subsets_of
subsets_sound width height level bx by present prev g =
    let b = block_of width height (level_of level) (level_of level).mv_size bx by in
    let s = (level_of level).ssdec in
    let bs = cells_b width height level bx by in
    let cs = cells_c width height level bx by present in
    let vs = predictors_at b.range s g bs in
    let vc = predictors_at b.range s prev cs in
    let vb = vs ++ (zero_v ∷ []) in
    let most : length vb ≤ slots = omega (arith, length-append vs (zero_v ∷ []), predictors-count b.range s g bs, b-few width height level bx by) in
    let mostc : length vc ≤ slots = omega (arith, predictors-count b.range s prev cs, c_few width height level bx by present) in
    record {
      b-most = most;
      c_most = mostc;
      b-slots = slots-all zero_v vb most;
      c_slots = slots-all zero_v vc mostc;
      zero-at = length vs;
      zero-below = omega (arith, length-append vs (zero_v ∷ []));
      zero-there = slots_read zero_v vb (length vs) ∙ get_or-append_seam vs zero_v [] zero_v;
    }

-- an absent grid is not looked into
same_present : (width height level bx by : ℕ) (present : Bool) (prev other g : Grid) → (present ≡ true → prev ≡ other)
    → subsets_of width height level bx by present prev g ≡ subsets_of width height level bx by present other g
unfolding subsets_of cells_c predictors_at sads_at
same_present width height level bx by true prev other g h = ap (λ (x : Grid). subsets_of width height level bx by true x g) (h refl)
same_present width height level bx by false prev other g h = refl

pub subsets-same_previous : (width height level bx by : ℕ) (p q : Previous) (g : Grid) → SamePrevious p q
    → subsets_of width height level bx by p.present p.grid g ≡ subsets_of width height level bx by q.present q.grid g
subsets-same_previous width height level bx by p q g same =
    same_present width height level bx by p.present p.grid q.grid g same.grid
    ∙ ap (λ (t : Bool). subsets_of width height level bx by t q.grid g) same.present
