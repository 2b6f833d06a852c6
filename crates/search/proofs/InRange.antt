-- In range: a cost below the most is the cost of a vector in range. Assumes nothing.
use mathlib.Core.Path.{◌≡◌, refl, ap}
use mathlib.Core.Bool.{Bool, true, false}
use mathlib.Core.List.{List}
use Prim.Native.Nat.{ℕ, ◌<◌}
use native.Mathlib.Omega.{arith}
use Rattle.motion.specs.declared.block.Block.{Block}
use Rattle.motion.specs.declared.vector.MotionVector.{MotionVector}
use Rattle.motion.specs.Range.{in_range}
use Rattle.sad.specs.declared.rd.MVCandidateRD.{MVCandidateRD}
use Rattle.sad.specs.Cost.{empty_rd, rd_at}
use Rattle.sad.proofs.CostLaws.{rd_out}
use Rattle.search.specs.declared.result.MotionSearchResult.{MotionSearchResult}
use Rattle.search.proofs.ResultLaws.{most_cost}

-- a record whose vector is in a block's range
abbrev pub Ranged : Block → MotionSearchResult → Type 0
Ranged b best = in_range b.range best.mv ≡ true

module _ (b : Block) (cur ref : List ℕ) where
  ranged_by : (v : MotionVector) (t : Bool) → in_range b.range v ≡ t → (rd_at b cur ref v).cost < most_cost → in_range b.range v ≡ true
  unfolding empty_rd
  ranged_by v true e h = e
  ranged_by v false e h = absurd (omega (arith, ap (λ (r : MVCandidateRD). r.cost) (rd_out b cur ref v e)))

  pub ranged : (v : MotionVector) → (rd_at b cur ref v).cost < most_cost → Ranged b (record { mv = v; rd = rd_at b cur ref v })
  ranged v h = ranged_by v (in_range b.range v) refl h
