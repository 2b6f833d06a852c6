-- Document 01's cases at the edges, in a single table.
use Rattle.std.specs.Prelude.{◌≡◌, List, [], ◌∷◌, ℕ, ◌*◌, ◌^◌, ℤ, pos, neg_ℤ}
use Rattle.std.specs.Int.Signed.{shr_z, quot_z}
use Rattle.motion.specs.declared.vector.MotionVector.{MotionVector}
use Rattle.motion.specs.declared.range.MvRange.{MvRange}
use Rattle.motion.specs.Vector.{fullpel}
use Rattle.motion.specs.Rate.{rate}
use Rattle.motion.specs.Level.{level_of}
use Rattle.motion.specs.Block.{block_of}
use Rattle.grid.specs.Grid.{Grid, room}
use Rattle.search.specs.declared.result.MotionSearchResult.{MotionSearchResult}
use Rattle.search.specs.Result.{CostOf, empty_result}
use Rattle.search.specs.Hexagon.{try_index, hexagon_three}
use Rattle.predict.specs.Predictors.{least_of, minimum_sad}
use Rattle.estimate.specs.Inputs.{Planes}
use Rattle.estimate.specs.Block.{stats_of}
use Rattle.inter.specs.Runs.{lengths_of, run_tests, run_refusal}

-- the columns that a block of level 4 at column bx of the cells searches, whatever the frame's height and the block's row
abbrev pub Columns4 : (width bx : ℕ) (low high : ℤ) → Type 0
Columns4 width bx low high =
    (height by : ℕ) → let r : MvRange = (block_of width height (level_of 4) (level_of 4).mv_size bx by).range in (r.mvx_min ≡ low) × (r.mvx_max ≡ high)

-- a result of this SAD on w by h pixels has this normalised SAD, whatever its vector, its cost and the shift, and back
abbrev pub Normalised : (sad w h there back : ℕ) → Type 0
Normalised sad w h there back =
    ((s : ℕ) (best : MotionSearchResult) → best.rd.sad ≡ sad → (stats_of s w h best).normalized_sad ≡ there) × (minimum_sad there (w * h) ≡ back)

-- a round from index i tries these three points, in this order, whatever the costs and the centre
abbrev pub Tries : (i first second third : ℕ) → Type 0
Tries i first second third =
    (rd : CostOf) (centre : MotionVector) → hexagon_three rd centre i ≡ try_index rd centre (try_index rd centre (try_index rd centre (record { idx = i; best = empty_result }) first) second) third

-- a run of 128 by 64, two superblocks side by side, which refusals 1, 4 and 5 let through, answers a list with this
abbrev pub Answers : List ℕ → ℕ → Type 0
Answers list number =
    (cur ref : Planes) (present : ℕ) (prev g : Grid) → run_tests 128 64 (lengths_of cur) (lengths_of ref) present (room prev) (room g) ≡ 0 → run_refusal 128 64 cur ref present prev list g ≡ number

pub record EdgeCases : Type 0 where
  -- E1 W=64, bx=0, level 4: columns −160..160
  pub e1 : Columns4 64 0 (neg_ℤ (pos 160)) (pos 160)
  -- E2 W=128, bx=16, level 4: −288..160
  pub e2 : Columns4 128 16 (neg_ℤ (pos 288)) (pos 160)
  -- E3 rate of one component: 0→0, 1→0, −1→2, 8→6, −8→6
  pub e3 : (rate (pos 0) ≡ 0) × (rate (pos 1) ≡ 0) × (rate (neg_ℤ (pos 1)) ≡ 2) × (rate (pos 8) ≡ 6) × (rate (neg_ℤ (pos 8)) ≡ 6)
  -- E4 16,383→26, −16,383→28
  pub e4 : (rate (pos 16383) ≡ 26) × (rate (neg_ℤ (pos 16383)) ≡ 28)
  -- E5 −9 cut to whole pixels is −8; −8>>2 is −2; −2/8 is 0
  pub e5 : (fullpel (neg_ℤ (pos 9)) ≡ neg_ℤ (pos 8)) × (shr_z (neg_ℤ (pos 8)) (2 ^ 2) ≡ neg_ℤ (pos 2)) × (quot_z (neg_ℤ (pos 2)) (pos 8) ≡ pos 0)
  -- E6 SAD 100 on 16×16: 6,400, back to 100
  pub e6 : Normalised 100 16 16 6400 100
  -- E7 SAD 100 on 6×16: 17,066, back to 99
  pub e7 : Normalised 100 6 16 17066 99
  -- E8 hexagon index 0 tries 5, 0, 1; index 5 tries 4, 5, 0
  pub e8 : Tries 0 5 0 1 × Tries 5 4 5 0
  -- E9 no sample, 16×16: minimum SAD 67,108,863
  pub e9 : minimum_sad (least_of []) (16 * 16) ≡ 67108863
  -- E10 two superblocks side by side: list 0 1 accepted, 1 0 refused 7, 0 0 refused 6, empty refused 6
  pub e10 : Answers (0 ∷ 1 ∷ []) 0 × Answers (1 ∷ 0 ∷ []) 7 × Answers (0 ∷ 0 ∷ []) 6 × Answers [] 6
