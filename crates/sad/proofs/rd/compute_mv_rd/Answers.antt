-- `sad::rd::compute_mv_rd` meets its contract: a rate of at most 64 times a 32-bit weight leaves room in 64 bits. Assumes nothing.
use Prim.Native.Nat.{◌+◌, ◌*◌}
use native.Mathlib.Nat.{mul-le-mul_right}
use native.Mathlib.Omega.{arith}
use Rattle.motion.proofs.RateLaws.{rate_v-le}
use Rattle.sad.specs.Cost.{rd_of}
use Rattle.sad.proofs.rd.compute_mv_rd.Goals as goal

pub overflow_add-result : goal.overflow_add-result
overflow_add-result c =
    let a = c.args in
    omega (arith, c.rate_part.ensures, mul-le-mul_right a.weight (rate_v-le a.cand_mv))

pub returns : goal.returns
unfolding rd_of
returns c =
    let a = c.args in
    λ i. record { cost = 256 * a.sad + c.rate_part.ensures i; sad = a.sad }
