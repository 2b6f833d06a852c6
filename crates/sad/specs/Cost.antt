-- The cost of a candidate.
use Rattle.std.specs.Prelude.{cond, List, ℕ, ◌+◌, ◌-◌, ◌*◌, ◌/◌, ◌^◌}
use Rattle.motion.specs.declared.block.Block.{Block}
use Rattle.motion.specs.declared.vector.MotionVector.{MotionVector}
use Rattle.motion.specs.Range.{in_range}
use Rattle.motion.specs.Rate.{rate_v}
use Rattle.sad.specs.declared.rd.MVCandidateRD.{MVCandidateRD}
use Rattle.sad.specs.Plane.{org_start, ref_start}
use Rattle.sad.specs.Sad.{sad_block}

-- out of range: the largest u64, its SAD being the largest u32
unfoldable pub empty_rd : MVCandidateRD
empty_rd = record { cost = 2 ^ 64 - 1; sad = 2 ^ 32 - 1 }

-- cost = 256·SAD + rate·weight
unfoldable pub rd_of : ℕ → ℕ → MotionVector → MVCandidateRD
rd_of weight sad v = record { cost = 256 * sad + rate_v v * weight; sad = sad }

-- the SAD of a block and of the reference block of a vector
unfoldable pub sad_at : (b : Block) (cur ref : List ℕ) (v : MotionVector) → ℕ
sad_at b cur ref v = sad_block cur (org_start b) ref (ref_start b v) b.stride b.w b.h

-- what a vector costs a block
unfoldable pub rd_at : (b : Block) (cur ref : List ℕ) (v : MotionVector) → MVCandidateRD
rd_at b cur ref v = cond (in_range b.range v) (rd_of b.weight (sad_at b cur ref v) v) empty_rd

-- the least sum at which 256 times the sum plus the rate part reaches a cost
unfoldable pub sad_limit : (cost rate : ℕ) → ℕ
sad_limit cost rate = (cost - rate + 255) / 256
