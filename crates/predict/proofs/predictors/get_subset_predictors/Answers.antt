-- `predict::predictors::get_subset_predictors` meets its contract: the cells sampled are inside the grids, and each field is what the
-- called functions give of them.
use Rattle.std.proofs.Common.{◌≡◌, ℕ, ◌+◌, ◌*◌, ◌≤◌, ◌<◌, min, Bool, true, false, not, eqb, List, [], ◌∷◌, ◌++◌, get_or, replicate, ◌-◌, ◌^◌, ℤ, ◌≤ℤ◌, IfSome, refl, sym, ap, subst, ◌∙◌, arith, length-append}
use Rattle.std.specs.Bool.{then_some}
use Rattle.std.specs.Option.{option_to_list}
use Rattle.std.proofs.lemmas.Int.{ints}
use Rattle.motion.specs.declared.level.Level.{Level}
use Rattle.motion.specs.declared.block.Block.{Block}
use Rattle.motion.specs.Level.{level_of}
use Rattle.motion.specs.Vector.{zero_v}
use Rattle.motion.specs.Block.{block_of}
use Rattle.motion.proofs.BlockLaws.{Ends, straddles}
use Rattle.grid.specs.declared.cells.MEStats.{MEStats}
use Rattle.grid.specs.Grid.{Grid, cells}
use Rattle.grid.specs.Lent.{lent, previous_lent}
use Rattle.grid.proofs.CellLaws.{reached}
use Rattle.sampled.proofs.HeldCells.{Reaches, b-held, c_held}
use Rattle.sampled.specs.Slots.{slotted}
use Rattle.sampled.specs.Sampled.{taken, centre_cell, cells_b, cells_c, cells_centre}
use Rattle.sampled.proofs.SampledLaws.{b-few}
use Rattle.sampled.proofs.InsideLaws.{middle-cell}
use Rattle.sampled.proofs.SlotLaws.{slots-zero}
use Rattle.predict.specs.declared.predictors.Subset.{Subset}
use Rattle.predict.specs.declared.predictors.MotionEstimationSubsets.{MotionEstimationSubsets}
use Rattle.predict.specs.Predictors.{predictors_at, sads_at, least_of, minimum_sad, stop_threshold, subset_of, subsets_of}
use Rattle.predict.proofs.AreaLaws.{level-small, block_area, minimum_small}
use Rattle.predict.proofs.LeastLaws.{least-both}
use Rattle.predict.proofs.PredictorLaws.{predictors-count}
use Rattle.predict.proofs.SubsetLaws.{subsets-same_previous}
use Rattle.predict.proofs.predictors.get_subset_predictors.Goals.{After-block_of-block, After-centre_cell, After-subset_of-b, in-Some, in-None}
use Rattle.predict.proofs.predictors.get_subset_predictors.Goals as goal

-- what the definition samples, and of which block
abbrev here : (width height level bx by : ℕ) → Block
here width height level bx by = block_of width height (level_of level) (level_of level).mv_size bx by

abbrev sample : (width height level bx by : ℕ) → Grid → List ℕ → Subset
sample width height level bx by g is = subset_of (here width height level bx by).range (level_of level).ssdec g is

module _ (width height level bx by : ℕ) (present : Bool) (prev g : Grid) where
  abbrev b : Block
  b = here width height level bx by

  abbrev s : ℕ
  s = (level_of level).ssdec

  abbrev bs : List ℕ
  bs = cells_b width height level bx by

  abbrev cs : List ℕ
  cs = cells_c width height level bx by present

  abbrev ms : List ℕ
  ms = cells_centre width height level bx by

  least-is : (x y : Subset) (m : ℕ) → x ≡ subset_of b.range s g bs → y ≡ subset_of b.range s prev cs → m ≡ least_of (sads_at g ms)
      → min x.least (min y.least m) ≡ least_of (sads_at g bs ++ sads_at prev cs ++ sads_at g ms)
  unfolding subset_of
  least-is x y m ex ey em =
      let least : Subset → ℕ = λ z. z.least in
      omega (arith, ap least ex, ap least ey, least-both (sads_at g bs ++ sads_at prev cs) (sads_at g ms), least-both (sads_at g bs) (sads_at prev cs))

  together : (x y : Subset) (m : MEStats) (min_sad threshold : ℕ) → x ≡ subset_of b.range s g bs → y ≡ subset_of b.range s prev cs
      → m.mv ≡ get_or (predictors_at b.range s g ms) 0 zero_v → m.normalized_sad ≡ least_of (sads_at g ms)
      → min_sad ≡ minimum_sad (min x.least (min y.least m.normalized_sad)) (b.w * b.h) → threshold ≡ stop_threshold min_sad (b.w * b.h)
      → ◌≡◌ {A = MotionEstimationSubsets}
      (record {
        min_sad = min_sad;
        threshold = threshold;
        center = m.mv;
        b_count = x.count + 1;
        c_count = y.count;
        subset_b = x.mvs;
        subset_c = y.mvs;
      })
      (subsets_of width height level bx by present prev g)
  unfolding subsets_of subset_of
  together x y m min_sad threshold ex ey centre sad e f =
      let vb = predictors_at b.range s g bs in
      let count = predictors-count b.range s g bs in
      let least = e ∙ ap (λ (n : ℕ). minimum_sad n (b.w * b.h)) (least-is x y m.normalized_sad ex ey sad) in
      let stop = f ∙ ap (λ (n : ℕ). stop_threshold n (b.w * b.h)) least in
      let counts = ap (λ (z : Subset). z.count + 1) ex ∙ sym (length-append vb (zero_v ∷ []) ∙ ap (λ (n : ℕ). n + 1) count) in
      let countc = ap (λ (z : Subset). z.count) ey ∙ sym (predictors-count b.range s prev cs) in
      let mvb = ap (λ (z : Subset). z.mvs) ex ∙ sym (slots-zero zero_v vb (omega (arith, count, b-few width height level bx by))) in
      let mvc = ap (λ (z : Subset). z.mvs) ey in
      λ i. record {
        min_sad = least i;
        threshold = stop i;
        center = centre i;
        b_count = counts i;
        c_count = countc i;
        subset_b = mvb i;
        subset_c = mvc i;
      }

-- with no previous grid nothing is sampled
none-is : (width height level bx by : ℕ) (g : Grid)
    → ◌≡◌ {A = Subset} (record { count = 0; mvs = replicate 5 zero_v; least = 2 ^ 32 - 1 }) (sample width height level bx by g (cells_c width height level bx by false))
unfolding cells_c subset_of predictors_at sads_at least_of slotted
none-is width height level bx by g = refl

-- a value that is kept where a test passes
some_if : {A : Type 0} (P : A → Type 0) (t : Bool) (x : A) → P x → IfSome (then_some t x) P
some_if P true x h = h
some_if P false x h = tt

taken-is : (t : Bool) (i : ℕ) → option_to_list (then_some t i) ≡ taken t i
unfolding taken
taken-is true i = refl
taken-is false i = refl

ends-ordered : {low high : ℤ} → Ends low high → low ≤ℤ high
ends-ordered e = grind (arith, ints, e.down, e.up)

-- the block and the cells are the definition's
block_is : (c : After-block_of-block) → let a = c.args in c.block_of-block.result ≡ block_of a.width a.height (level_of a.level) (level_of a.level).mv_size a.bx a.by
block_is c = cc

middle-is : (c : After-centre_cell) → let a = c.args in c.centre_cell.result ≡ centre_cell a.width a.height (level_of a.level).mv_size a.bx a.by
middle-is c = cc

area : (c : After-block_of-block) → c.block_of-block.result.w * c.block_of-block.result.h ≤ 4096
area c =
    let a = c.args in
    subst (λ (b : Block). b.w * b.h ≤ 4096) (sym (block_is c)) (block_area a.width a.height a.level a.bx a.by)

pub invariant_of-scale-clause-ordered : goal.invariant_of-scale-clause-ordered
invariant_of-scale-clause-ordered c =
    let p = c.requires.placed in
    let s = straddles p.sized p.wide p.high p.across p.down in
    subst (λ (b : Block). (b.range.mvx_min ≤ℤ b.range.mvx_max) × (b.range.mvy_min ≤ℤ b.range.mvy_max))
    (sym (block_is (goal.at.invariant_of-scale-clause-ordered c).After-block_of-block)) (ends-ordered s.across, ends-ordered s.along)

pub invariant_of-scale-clause-small : goal.invariant_of-scale-clause-small
invariant_of-scale-clause-small c = rw c.level_of-row.ensures (level-small c.args.level).0

pub centre_of-m-requires : goal.centre_of-m-requires
centre_of-m-requires c =
    let middle = middle-is (goal.at.centre_of-m-requires c).After-centre_cell in
    let below : c.centre_cell.result < cells c.args.width c.args.height = rw middle (middle-cell c.requires.placed) in
    rw c.then_some-centre.ensures (some_if (Reaches (lent c.args.grid.now)) _ c.centre_cell.result (reached c.requires.held below))

pub subset_of-b-requires-clause-inside : goal.subset_of-b-requires-clause-inside
subset_of-b-requires-clause-inside c =
    let a = c.args in
    rw (c.as_slice.ensures.value, c.cells_b.ensures.cells) (b-held a.width a.height a.level a.bx a.by c.requires.placed (lent a.grid.now) c.requires.held)

pub subset_of-c-requires-clause-inside : goal.subset_of-c-requires-clause-inside
subset_of-c-requires-clause-inside c =
    let a = c.args in
    let held = (rw c.in-Some.is at c.requires.prev_held) refl in
    rw (c.as_slice-in-Some.ensures.value, c.cells_c.ensures a.level (ap (λ (l : Level). l.mv_size) c.level_of-row.ensures))
    (c_held a.width a.height a.level a.bx a.by c.requires.placed (lent c.in-Some.prev) held)

pub overflow_mul-area : goal.overflow_mul-area
overflow_mul-area c = record { fits = omega (arith, area (goal.at.overflow_mul-area c).After-block_of-block) }

pub overflow_cast-area : goal.overflow_cast-area
overflow_cast-area c = record { fits = omega (arith, area (goal.at.overflow_cast-area c).After-block_of-block) }

pub minimum_sad-min_sad-requires : goal.minimum_sad-min_sad-requires
minimum_sad-min_sad-requires c = area (goal.at.minimum_sad-min_sad-requires c).After-block_of-block

pub stop_threshold-requires : goal.stop_threshold-requires
stop_threshold-requires c =
    let small = area (goal.at.stop_threshold-requires c).After-block_of-block in
    (rw c.minimum_sad-min_sad.ensures (minimum_small _ _ (omega (arith, c.min-2.type_inv)) small), small)

pub overflow_add-result : goal.overflow_add-result
unfolding subset_of
overflow_add-result c =
    record { fits = omega (arith, ap (λ (x : Subset). x.count) c.subset_of-b.ensures, c.as_slice.ensures.fits) }

pub returns : goal.returns
unfolding cells_centre
returns c =
    let a = c.args in
    let g = lent a.grid.now in
    let p = previous_lent a.prev in
    let block = block_is (goal.at.returns c).After-block_of-block in
    let x : c.subset_of-b.result ≡ sample a.width a.height a.level a.bx a.by g (cells_b a.width a.height a.level a.bx a.by) = cc in
    let y : c.match-prev.c ≡ sample a.width a.height a.level a.bx a.by p.grid (cells_c a.width a.height a.level a.bx a.by p.present) =
    elim c.match-prev.branch [
      | in-Some w ↦ (let cells = w.cells_c.ensures a.level (ap (λ (l : Level). l.mv_size) c.level_of-row.ensures) in rw w.in-Some.is (cc))
      | in-None w ↦ rw w.in-None.is (w.c-is ∙ none-is a.width a.height a.level a.bx a.by _)
    ] in
    let middle : option_to_list c.then_some-centre.result ≡ cells_centre a.width a.height a.level a.bx a.by =
    ap option_to_list c.then_some-centre.ensures ∙ taken-is _ _ ∙ ap (taken (not (eqb a.level 4))) (middle-is (goal.at.returns c).After-centre_cell) in
    let made =
    together a.width a.height a.level a.bx a.by p.present p.grid g c.subset_of-b.result c.match-prev.c c.centre_of-m.result c.minimum_sad-min_sad.result c.stop_threshold.result
    x y (cc) (cc) (cc) (cc) in
    record { subsets = made; same_previous = λ q same. made ∙ subsets-same_previous a.width a.height a.level a.bx a.by p q g same }
