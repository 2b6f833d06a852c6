-- What the calls on a block give depends on the first samples of a plane and the first cells of a grid alone. Assumes nothing.
use mathlib.Core.Path.{◌≡◌, refl, sym, ap, ap₂, ◌∙◌}
use mathlib.Core.Logic.{◌⊎◌, inl, inr}
use mathlib.Core.Bool.{Bool, true, false, not, cond, ◌&&◌, ◌||◌}
use mathlib.Core.List.{List}
use Prim.Native.Nat.{ℕ}
use native.Mathlib.Nat.{le_refl}
use native.Mathlib.Omega.{arith}
use borrow.Author.Tests.{le-leb, eqb-true, eqb-false}
use lib.Dec.{eqb}
use lib.ListN.{length}
use Rattle.ground.proofs.TestLaws.{tested}
use Rattle.motion.specs.declared.vector.MotionVector.{MotionVector}
use Rattle.motion.specs.Level.{level_of}
use Rattle.motion.specs.Range.{in_range}
use Rattle.motion.specs.Frame.{Placed}
use Rattle.motion.specs.Block.{weighed}
use Rattle.grid.specs.declared.cells.MEStats.{MEStats}
use Rattle.grid.specs.Grid.{Grid, cell_at, stats_at, stored_at, room}
use Rattle.grid.specs.Previous.{previous}
use Rattle.grid.proofs.CellLaws.{cell-inside}
use Rattle.refusal.specs.Refusals.{refuse, ◌then◌, size_of, plane_ok, block_refusal, planes_refusal, call_refusal, grid_ok, grids_hold}
use Rattle.refusal.proofs.RefusalLaws.{none_of, accepted, holds}
use Rattle.sad.specs.Cost.{rd_at}
use Rattle.sad.proofs.Contained.{lies, weighed-lies}
use Rattle.sad.proofs.CostLaws.{rd_same}
use Rattle.points.specs.Window.{refine_window, window_ok}
use Rattle.search.specs.Result.{CostOf}
use Rattle.search.specs.Full.{refine}
use Rattle.sampled.specs.Sampled.{cells_c}
use Rattle.sampled.proofs.InsideLaws.{b-inside, c_inside, centre_inside}
use Rattle.predict.specs.declared.predictors.MotionEstimationSubsets.{MotionEstimationSubsets}
use Rattle.single.specs.declared.found.Found.{Found}
use Rattle.single.specs.Found.{refused, found_of, answer}
use Rattle.single.specs.Call.{block_at}
use Rattle.single.specs.Leaves.{candidate_answer}
use Rattle.single.specs.Predicting.{predictors_refusal, predictors_with, predictors_answer}
use Rattle.searches.specs.declared.searches.Method.{Method}
use Rattle.searches.specs.Searches.{search_by, search_refusal, search_answer}
use Rattle.searches.specs.Refinement.{window_answer, refine_answer}
use Rattle.theorems.specs.Rest.{samples, SamePlane, SameInside, SamePrevious}
use Rattle.theorems.proofs.BlockReads.{SameAt, subsets_read}

-- an answer is the same where the refusal is, and what is found too, where there is none
answer-same : {n m : ℕ} {f g : Found} → n ≡ m → (n ≡ 0 → f ≡ g) → answer n f ≡ answer m g
unfolding answer
answer-same {n} {m} {f} {g} e same =
    by (tested (eqb n 0)) ∙ ap (λ (k : ℕ). cond (eqb k 0) g (refused k)) e
  where
    by : (eqb n 0 ≡ true) ⊎ (eqb n 0 ≡ false) → cond (eqb n 0) f (refused n) ≡ cond (eqb n 0) g (refused n)
    by (inl z) = ap (λ (h : Found). cond (eqb n 0) h (refused n)) (same (eqb-true n 0 z))
    by (inr z) = rw z

-- the planes of a level
module _ (width height level : ℕ) {cur cur' ref ref' : List ℕ} (hc : SamePlane width height level cur cur') (hr : SamePlane width height level ref ref') where
  pub planes_same : planes_refusal width height level (length cur) (length ref) ≡ planes_refusal width height level (length cur') (length ref')
  unfolding planes_refusal plane_ok
  planes_same = rw (le-leb _ _ hc.one, le-leb _ _ hr.one, le-leb _ _ hc.other, le-leb _ _ hr.other)

  module _ (refined bx by : ℕ) where
    pub call_same : call_refusal width height level refined bx by (length cur) (length ref) ≡ call_refusal width height level refined bx by (length cur') (length ref')
    unfolding call_refusal
    call_same = ap (λ (n : ℕ). block_refusal width height level refined bx by then n) planes_same

    -- the block of a call that is not refused
    pub placed : call_refusal width height level refined bx by (length cur) (length ref) ≡ 0 → Placed width height (level_of level) (size_of level refined) bx by
    unfolding call_refusal
    placed z = accepted width height level refined bx by (none_of (block_refusal width height level refined bx by) (planes_refusal width height level (length cur) (length ref)) z).0

    pub costs_same : call_refusal width height level refined bx by (length cur) (length ref) ≡ 0 → (weight : ℕ) → rd_at (weighed (block_at width height level refined bx by) weight) cur ref ≡ rd_at (weighed (block_at width height level refined bx by) weight) cur' ref'
    unfolding block_at
    costs_same z weight =
        let ok = placed z in
        let here = lies ok.sized ok.wide ok.high ok.across ok.down (samples width height level) (le_refl _) in
        rd_same _ (samples width height level) cur cur' ref ref' (weighed-lies weight here) hc.same hr.same

    pub candidate-same : (v : MotionVector) (weight : ℕ) → candidate_answer width height level refined bx by cur ref v weight ≡ candidate_answer width height level refined bx by cur' ref' v weight
    unfolding candidate_answer
    candidate-same v weight = answer-same call_same (λ z. ap (λ (rd : CostOf). found_of v (rd v)) (costs_same z weight))

  pub search_same : (method : Method) (bx by : ℕ) (v : MotionVector) (weight : ℕ) → search_answer method width height level bx by cur ref v weight ≡ search_answer method width height level bx by cur' ref' v weight
  unfolding search_answer search_refusal
  search_same method bx by v weight =
      answer-same (ap (λ (n : ℕ). n then refuse 9 (in_range (block_at width height level 0 bx by).range v)) (call_same 0 bx by))
      (λ z. ap (λ (rd : CostOf). found_of (search_by method rd (record { mv = v; rd = rd v })).mv (search_by method rd (record { mv = v; rd = rd v })).rd) (costs_same 0 bx by (none_of _ _ z).0 weight))

-- the grids
pub grids_same : {width height present : ℕ} {prev before g h : Grid} → SamePrevious width height present prev before → SameInside width height g h → grids_hold width height present (room prev) (room g) ≡ grids_hold width height present (room before) (room h)
unfolding grids_hold
grids_same {width} {height} {present} {prev} {before} {g} {h} hp e =
    ap₂ ◌&&◌ (holds e.one ∙ sym (holds e.other)) (by (tested (eqb present 0)))
  where
    by : (eqb present 0 ≡ true) ⊎ (eqb present 0 ≡ false) → (eqb present 0 || grid_ok width height (room prev)) ≡ (eqb present 0 || grid_ok width height (room before))
    by (inl z) = rw z
    by (inr z) =
        let both = hp (eqb-false present 0 z) in
        rw (holds both.one, holds both.other)

-- one refinement
pub refine-same : (width height level bx by : ℕ) {cur cur' ref ref' : List ℕ} → SamePlane width height level cur cur' → SamePlane width height level ref ref' → (g h : Grid) → SameInside width height g h → (weight : ℕ) → refine_answer width height level bx by cur ref g weight ≡ refine_answer width height level bx by cur' ref' h weight
unfolding refine_answer window_answer stats_at
refine-same width height level bx by {cur} {cur'} {ref} {ref'} hc hr g h e weight =
    answer-same (λ i. call_same width height level hc hr 1 bx by i then refuse 5 (grid i))
    (λ z.
    let call = (none_of (call_refusal width height level 1 bx by (length cur) (length ref)) _ z).0 in
    let ok = placed width height level hc hr 1 bx by call in
    let stored : stored_at g.rows g.cols (cell_at width bx by) ≡ stored_at h.rows h.cols (cell_at width bx by) = ap (λ (x : MEStats). x.mv) (e.same (cell_at width bx by) (cell-inside width height bx by ok.across.inside ok.down.inside)) in
    let b = weighed (block_at width height level 1 bx by) weight in
    let s = (level_of level).ssdec in
    let rd = costs_same width height level hc hr 1 bx by call weight in
    λ i. answer (refuse 8 (window_ok (refine_window b.range (stored i) s))) (found_of (refine (rd i) b.range (stored i) s).mv (refine (rd i) b.range (stored i) s).rd))
  where
    grid : grid_ok width height (room g) ≡ grid_ok width height (room h)
    grid = holds {width = width} {height = height} {g = g} e.one ∙ sym (holds {width = width} {height = height} {g = h} e.other)

-- the cells of a previous grid that a block of the frame samples, where there are any
module _ (width height level bx by present : ℕ) (prev before : Grid) (ok : Placed width height (level_of level) (level_of level).mv_size bx by) (hp : SamePrevious width height present prev before) where
  c_by : (t : Bool) → eqb present 0 ≡ t → SameAt prev before (cells_c width height level bx by (not t))
  unfolding cells_c
  c_by true z = record { each = λ k p. absurd (omega arith) }
  c_by false z = record { each = λ k p. (hp (eqb-false present 0 z)).same _ (c_inside width height level bx by ok true k p) }

  pub c_same : SameAt prev before (cells_c width height level bx by (previous present prev).present)
  unfolding previous
  c_same = c_by (eqb present 0) refl

with_same : {n m : ℕ} {p q : MotionEstimationSubsets} → n ≡ m → (n ≡ 0 → p ≡ q) → predictors_with n p ≡ predictors_with m q
unfolding predictors_with
with_same {n} {m} {p} {q} e same = by (tested (eqb n 0)) ∙ ap (λ (k : ℕ). predictors_with k q) e
  where
    by : (eqb n 0 ≡ true) ⊎ (eqb n 0 ≡ false) → predictors_with n p ≡ predictors_with n q
    by (inl z) = ap (predictors_with n) (same (eqb-true n 0 z))
    by (inr z) = rw z

pub predictors-same : (width height level bx by present : ℕ) (prev before g h : Grid) → SamePrevious width height present prev before → SameInside width height g h → predictors_answer width height level bx by present prev g ≡ predictors_answer width height level bx by present before h
unfolding predictors_answer predictors_refusal previous size_of
predictors-same width height level bx by present prev before g h hp e =
    with_same (ap (λ (t : Bool). block_refusal width height level 0 bx by then refuse 5 t) (grids_same hp e))
    (λ z.
    let ok = accepted width height level 0 bx by (none_of (block_refusal width height level 0 bx by) _ z).0 in
    subsets_read width height level bx by (previous present prev).present prev before g h
    (record { each = λ k p. e.same _ (b-inside width height level bx by ok k p) }) (c_same width height level bx by present prev before ok hp)
    (record { each = λ k p. e.same _ (centre_inside width height level bx by ok k p) }))
