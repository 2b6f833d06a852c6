-- What holds of every block that a level searches or refines, and of what its search hands back. Assumes nothing.
use mathlib.Core.Path.{◌≡◌, refl, sym, ap, ap₂, subst, ◌∙◌}
use mathlib.Core.Bool.{Bool, true, false, cond, ◌&&◌, ◌||◌}
use mathlib.Core.Logic.{⊎_elim}
use mathlib.Core.List.{List}
use Prim.Native.Nat.{ℕ, zero, suc, ◌*◌, ◌^◌, ◌≤◌, ◌<◌}
use native.Mathlib.Nat.{le_trans, mul_assoc}
use native.Mathlib.Omega.{arith}
use borrow.Author.Tests.{le-ltb, eqb-true}
use lib.Dec.{ltb, eqb}
use lib.ListN.{length, get_or, take}
use Rattle.std.proofs.lemmas.List.{length-take-le, get_or-take}
use Rattle.ground.proofs.TestLaws.{both, either as one_of}
use Rattle.motion.specs.declared.block.Block.{Block}
use Rattle.motion.specs.declared.level.Level.{Level}
use Rattle.motion.specs.declared.vector.MotionVector.{MotionVector}
use Rattle.motion.specs.Limits.{cell_side, largest_side, largest_sample}
use Rattle.motion.specs.Vector.{zero_v, FitsV, shl_v}
use Rattle.motion.specs.Range.{in_range}
use Rattle.motion.specs.Level.{level_of}
use Rattle.motion.specs.Frame.{Side, Starts, Sized, own4, own3, own2, refined3, refined2}
use Rattle.motion.specs.Block.{block_of, weighed}
use Rattle.motion.proofs.BlockLaws.{zero-in_range, Straddles, straddles, shl_fits, some-columns, some-rows}
use Rattle.motion.proofs.LevelLaws.{each_level}
use Rattle.grid.specs.Grid.{cells, cell_at}
use Rattle.grid.proofs.CellLaws.{cell-inside}
use Rattle.refusal.specs.Refusals.{level_ok}
use Rattle.sad.specs.declared.rd.MVCandidateRD.{MVCandidateRD}
use Rattle.sad.specs.Asked.{Measured, Lies}
use Rattle.sad.specs.Cost.{rd_of, rd_at}
use Rattle.sad.proofs.Sums.{Under}
use Rattle.sad.proofs.Contained.{lies, weighed-lies}
use Rattle.sad.proofs.CostLaws.{rd_in, sad-area}
use Rattle.search.specs.declared.result.MotionSearchResult.{MotionSearchResult}
use Rattle.search.specs.Result.{CostOf, empty_result, cheaper, try_one, try_each}
use Rattle.search.specs.Diamond.{diamond}
use Rattle.search.proofs.LeastLaws.{least-each, least-tried, least-cheaper, least-diamond, least-multi}
use Rattle.search.proofs.FoundLaws.{LooseKept, Settled, loose_empty, loose_one, loose_each, loose_cheaper, loose_diamond, loose_multi, settled}
use Rattle.predict.specs.declared.predictors.MotionEstimationSubsets.{MotionEstimationSubsets}
use Rattle.predict.proofs.SubsetLaws.{Sound}
use Rattle.estimate.specs.declared.inputs.LevelInputs.{LevelInputs}
use Rattle.estimate.specs.Inputs.{Inputs}
use Rattle.estimate.specs.Lent.{inputs_lent}
use Rattle.estimate.specs.Asked.{four, three, two, Leveled, Samples, Ready, Listed, Honest}
use Rattle.estimate.specs.Block.{block_in, try_mvs, try_cands, short_search, extensive_search, full_pixel_me}

-- the levels of refusal 2, where nothing is refined
pub leveled-of : (level : ℕ) → level_ok level 0 ≡ true → Leveled level
unfolding level_ok
leveled-of level h =
    ⊎_elim (λ e. at 2 e two)
    (λ r.
    ⊎_elim (λ e. at 3 e three) (λ q. at 4 (both (eqb level 4) true q).0 four)
    (one_of (eqb level 3) (eqb level 4 && true) r))
    (one_of (eqb level 2) (eqb level 3 || (eqb level 4 && true)) h)
  where
    at : (n : ℕ) → eqb level n ≡ true → Leveled n → Leveled level
    at n e l = subst Leveled (sym (eqb-true level n e)) l

-- what is lent to a level has passed every test
pub ready : (i : LevelInputs) → Ready (inputs_lent i)
ready i =
    record {
      wide = i.wide;
      high = i.high;
      leveled = leveled-of i.level i.leveled;
      cur = i.cur_held;
      ref = i.reference_held;
    }

-- a level's own size and its refined one are sizes of the table
pub own-sized : {level : ℕ} → Leveled level → Sized (level_of level) (level_of level).mv_size
unfolding level_of
own-sized four = own4
own-sized three = own3
own-sized two = own2

pub refined_sized : {level : ℕ} → Leveled level → Sized (level_of level) (level_of level).refined
unfolding level_of
refined_sized four = own4
refined_sized three = refined3
refined_sized two = refined2

-- what making a block asks of its level
pub level-most : (level : ℕ) → ((level_of level).ssdec < 16) × ((level_of level).pad ≤ largest_side) × ((level_of level).mv_size ≤ largest_side) × ((level_of level).refined ≤ largest_side)
level-most level =
    each_level (λ (l : Level). (l.ssdec < 16) × (l.pad ≤ largest_side) × (l.mv_size ≤ largest_side) × (l.refined ≤ largest_side)) (omega arith) (omega arith) (omega arith) level

-- and of its place
pub place-most : {width height size bx by : ℕ} → Side width → Side height → Starts width size bx → Starts height size by
    → (cell_side * bx ≤ width) × (width ≤ largest_side) × (cell_side * by ≤ height) × (height ≤ largest_side)
place-most wide high across down = omega (arith, wide, high, across, down)

-- a block's first cell is one of those that a frame's grid holds
pub cell-held : {width height size bx by n : ℕ} → Starts width size bx → Starts height size by → cells width height ≤ n → cell_at width bx by < n
cell-held {width} {height} {size} {bx} {by} across down held = omega (arith, cell-inside width height bx by across.inside down.inside)

-- a sound record's lists are in five slots
pub listed : {p : MotionEstimationSubsets} → Sound p → Listed p
listed s = record { b-few = s.b-most; c_few = s.c_most; b-slots = s.b-slots; c_slots = s.c_slots }

-- what saving a result asks: its vector, shifted left, fits, and its SAD is that of a block of bytes
abbrev pub Saves : Level → Block → MotionSearchResult → Type 0
Saves l b best =
    ((l.ssdec < 16) × FitsV (shl_v best.mv l.ssdec))
    × ((0 < b.w) × (b.w ≤ 64) × (0 < b.h) × (b.h ≤ 64))
    × (best.rd.sad ≤ largest_sample * (b.w * b.h))

-- a block of either size at a cell of the frame
module _ {i : Inputs} (ready : Ready i) {size bx by : ℕ} (sized : Sized (level_of i.level) size) (across : Starts i.width size bx) (down : Starts i.height size by) where
  -- lies in both planes
  pub block_lies : Lies (weighed (block_of i.width i.height (level_of i.level) size bx by) i.weight) (length i.cur) × Lies (weighed (block_of i.width i.height (level_of i.level) size bx by) i.weight) (length i.ref)
  block_lies =
      let there = lies sized ready.wide ready.high across down in
      (weighed-lies i.weight (there (length i.cur) ready.cur), weighed-lies i.weight (there (length i.ref) ready.ref))

  -- has the zero vector in range
  pub block_zero : in_range (block_in i size bx by).range zero_v ≡ true
  unfolding block_in
  block_zero = zero-in_range sized ready.wide ready.high across down

  pub block_straddles : Straddles (block_in i size bx by).range
  unfolding block_in
  block_straddles = straddles sized ready.wide ready.high across down

  pub block_measured : Measured (block_in i size bx by)
  unfolding block_in
  block_measured = block_lies.0.measured

  -- and of a settled record it saves what fits
  pub block_saves : {best : MotionSearchResult} → Samples i.cur → Samples i.ref → Settled (block_in i size bx by) i.cur i.ref best → Saves (level_of i.level) (block_in i size bx by) best
  unfolding rd_of block_in
  block_saves {best} hc hr s =
      let here = weighed (block_of i.width i.height (level_of i.level) size bx by) i.weight in
      let m = block_lies.0.measured in
      let own = ap (λ (r : MVCandidateRD). r.sad) (s.own ∙ rd_in here i.cur i.ref best.mv s.in_range_lem) in
      let area = sad-area here i.cur i.ref best.mv hc hr in (
        ((level-most i.level).0, shl_fits sized ready.wide ready.high across down best.mv s.in_range_lem),
        (some-columns sized ready.wide ready.high across down, m.wide, some-rows sized ready.wide ready.high across down, m.high),
        omega (arith, own, area, mul_assoc largest_sample here.w here.h),
      )

-- vectors that are equal one by one
each_same : (rd : CostOf) (best : MotionSearchResult) (n : ℕ) (vs ws : ℕ → MotionVector) → ((k : ℕ) → k < n → vs k ≡ ws k) → try_each rd best n vs ≡ try_each rd best n ws
unfolding try_each
each_same rd best zero vs ws same = refl
each_same rd best (suc n) vs ws same = ap₂ (try_one rd) (each_same rd best n vs ws (λ k below. same k (omega arith))) (same n (omega arith))

-- a vector tried again changes nothing
pub tried_again : (rd : CostOf) (best : MotionSearchResult) (v : MotionVector) → best.mv ≡ v → best.rd ≡ rd best.mv → best ≡ try_one rd best v
unfolding try_one cheaper
tried_again rd best v e own =
    let same = ap (λ (r : MVCandidateRD). r.cost) own ∙ ap (λ (u : MotionVector). (rd u).cost) e in
    rw (le-ltb (rd v).cost best.rd.cost (omega arith))

-- a vector tried leaves its own SAD and cost or what was there
pub honest_one : (rd : CostOf) (best : MotionSearchResult) (v : MotionVector) → Honest rd best → Honest rd (try_one rd best v)
unfolding try_one cheaper
honest_one rd best v h = by (ltb (rd v).cost best.rd.cost)
  where
    by : (t : Bool) → Honest rd (cond t (record { mv = v; rd = rd v }) best)
    by true = λ less. refl
    by false = h

-- the first vectors of a list, as a slice of it
pub try_taken : (rd : CostOf) (best : MotionSearchResult) (mvs : List MotionVector) (count : ℕ) → count ≤ length mvs → try_mvs rd best (take count mvs) (length (take count mvs)) ≡ try_mvs rd best mvs count
unfolding try_mvs
try_taken rd best mvs count few =
    rw (length-take-le count mvs few) (each_same rd best count (λ k. get_or (take count mvs) k zero_v) (λ k. get_or mvs k zero_v) (λ k below. get_or-take count mvs k zero_v below))

pub cands_taken : (rd : CostOf) (mvs : List MotionVector) (count : ℕ) → count ≤ length mvs → try_cands rd (take count mvs) (length (take count mvs)) ≡ try_cands rd mvs count
unfolding try_cands
cands_taken rd mvs count few = ap (diamond rd) (try_taken rd empty_result mvs count few)

module _ (b : Block) (cur ref : List ℕ) where
  -- what a list and the searches make of an empty best is in range, if zero is
  pub loose_mvs : (best : MotionSearchResult) (mvs : List MotionVector) (count : ℕ) → LooseKept b cur ref best → LooseKept b cur ref (try_mvs (rd_at b cur ref) best mvs count)
  unfolding try_mvs
  loose_mvs best mvs count k = loose_each b cur ref best count (λ j. get_or mvs j zero_v) k

  least-mvs : (best : MotionSearchResult) (mvs : List MotionVector) (count : ℕ) → (try_mvs (rd_at b cur ref) best mvs count).rd.cost ≤ best.rd.cost
  unfolding try_mvs
  least-mvs best mvs count = least-each (rd_at b cur ref) best count (λ j. get_or mvs j zero_v)

  module _ (zero_in : in_range b.range zero_v ≡ true) where
    pub loose_cands : (mvs : List MotionVector) (count : ℕ) → LooseKept b cur ref (try_cands (rd_at b cur ref) mvs count)
    unfolding try_cands
    loose_cands mvs count =
        loose_diamond b cur ref (try_mvs (rd_at b cur ref) empty_result mvs count) (loose_mvs empty_result mvs count (loose_empty b cur ref zero_in))

    -- levels 3 and 2: the centre, then B, then C
    pub loose_centre : (p : MotionEstimationSubsets) → LooseKept b cur ref (try_one (rd_at b cur ref) empty_result p.center)
    loose_centre p = loose_one b cur ref empty_result p.center (loose_empty b cur ref zero_in)

    pub loose_near : (p : MotionEstimationSubsets) → LooseKept b cur ref (try_mvs (rd_at b cur ref) (try_one (rd_at b cur ref) empty_result p.center) p.subset_b p.b_count)
    loose_near p = loose_mvs (try_one (rd_at b cur ref) empty_result p.center) p.subset_b p.b_count (loose_centre p)

    pub loose_short : (p : MotionEstimationSubsets) → LooseKept b cur ref (try_mvs (rd_at b cur ref) (try_mvs (rd_at b cur ref) (try_one (rd_at b cur ref) empty_result p.center) p.subset_b p.b_count) p.subset_c p.c_count)
    loose_short p =
        let rd = rd_at b cur ref in
        loose_mvs (try_mvs rd (try_one rd empty_result p.center) p.subset_b p.b_count) p.subset_c p.c_count (loose_near p)

    -- level 4, before uneven multi-hexagon
    pub loose_extensive : (p : MotionEstimationSubsets) → LooseKept b cur ref (cheaper (try_cands (rd_at b cur ref) p.subset_b p.b_count) (try_cands (rd_at b cur ref) p.subset_c p.c_count))
    loose_extensive p =
        let rd = rd_at b cur ref in
        loose_cheaper b cur ref (try_cands rd p.subset_b p.b_count) (try_cands rd p.subset_c p.c_count)
        (loose_cands p.subset_b p.b_count) (loose_cands p.subset_c p.c_count)

    module _ (m : Measured b) (hc : Under largest_sample cur) (hr : Under largest_sample ref) (hw : b.weight < 2 ^ 32) (p : MotionEstimationSubsets) (s : Sound p) where
      -- B holds the zero vector
      zero-tried : (best : MotionSearchResult) → (try_mvs (rd_at b cur ref) best p.subset_b p.b_count).rd.cost ≤ (rd_at b cur ref zero_v).cost
      unfolding try_mvs
      zero-tried best =
          let rd = rd_at b cur ref in
          let vs : ℕ → MotionVector = λ j. get_or p.subset_b j zero_v in
          subst (λ (v : MotionVector). (try_mvs rd best p.subset_b p.b_count).rd.cost ≤ (rd v).cost) s.zero-there (least-tried rd best p.b_count vs s.zero-at s.zero-below)

      below_zero : {best : MotionSearchResult} → LooseKept b cur ref best → best.rd.cost ≤ (rd_at b cur ref zero_v).cost → Settled b cur ref best
      below_zero k below = settled b cur ref m hc hr hw k zero_v zero_in below

      short_settled : Settled b cur ref (short_search (rd_at b cur ref) p)
      unfolding short_search
      short_settled =
          let rd = rd_at b cur ref in
          let first = try_one rd empty_result p.center in
          let near = try_mvs rd first p.subset_b p.b_count in
          let last = try_mvs rd near p.subset_c p.c_count in
          below_zero (loose_diamond b cur ref last (loose_short p))
          (le_trans (least-diamond rd last) (le_trans (least-mvs near p.subset_c p.c_count) (zero-tried first)))

      cands_below : (try_cands (rd_at b cur ref) p.subset_b p.b_count).rd.cost ≤ (rd_at b cur ref zero_v).cost
      unfolding try_cands
      cands_below = le_trans (least-diamond (rd_at b cur ref) (try_mvs (rd_at b cur ref) empty_result p.subset_b p.b_count)) (zero-tried empty_result)

      either : {x y : MotionSearchResult} (t : Bool) → Settled b cur ref x → Settled b cur ref y → Settled b cur ref (cond t x y)
      either true sx sy = sx
      either false sx sy = sy

      extensive_settled : Settled b cur ref (extensive_search (rd_at b cur ref) p)
      unfolding extensive_search
      extensive_settled =
          let rd = rd_at b cur ref in
          let near = try_cands rd p.subset_b p.b_count in
          let far = try_cands rd p.subset_c p.c_count in
          let kept = cheaper near far in
          let below = le_trans (least-cheaper near far) cands_below in
          either (ltb near.rd.sad p.threshold) (below_zero (loose_cands p.subset_b p.b_count) cands_below)
          (either (ltb kept.rd.sad p.threshold) (below_zero (loose_extensive p) below)
          (below_zero (loose_multi b cur ref kept (loose_extensive p)) (le_trans (least-multi rd kept) below)))

      -- at every level a search hands back a vector in range, with its own SAD and cost
      pub full_pixel_me-settled : (level : ℕ) → Settled b cur ref (full_pixel_me (rd_at b cur ref) level p)
      unfolding full_pixel_me
      full_pixel_me-settled level = either (eqb level 4) extensive_settled short_settled
