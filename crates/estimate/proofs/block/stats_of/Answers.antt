-- `estimate::block::stats_of` meets its contract: a block has at most 65,535 a sample, so that its normalised SAD is below 2 ^ 22.
use mathlib.Core.Path.{◌≡◌, ap}
use Prim.Native.Nat.{ℕ, ◌*◌, ◌/◌, ◌%◌, ◌^◌, ◌≤◌, ◌<◌}
use native.Mathlib.Nat.{mul-le-mul, div-le_of_le-mul}
use native.Mathlib.Omega.{arith}
use Rattle.motion.specs.Limits.{largest_sample}
use Rattle.estimate.specs.Block.{stats_of}
use Rattle.estimate.proofs.block.stats_of.Goals.{Start}
use Rattle.estimate.proofs.block.stats_of.Goals as goal

module _ (c : Start) where
  area_some : 0 < c.args.w * c.args.h
  area_some = mul-le-mul {n₁ = 1} {m₁ = 1} {n₂ = c.args.w} {m₂ = c.args.h} (omega arith) (omega arith)

  area_most : c.args.w * c.args.h ≤ 4096
  area_most = mul-le-mul {n₁ = c.args.w} {m₁ = c.args.h} {n₂ = 2 ^ 6} {m₂ = 2 ^ 6} (omega arith) (omega arith)

  -- no bit is shifted out
  shifted : c.args.best.rd.sad * 2 ^ 14 % 2 ^ 64 ≡ c.args.best.rd.sad * 2 ^ 14
  shifted = omega (arith, area_most)

  normal_most : c.args.best.rd.sad * 2 ^ 14 / (c.args.w * c.args.h) ≤ largest_sample * 2 ^ 14
  normal_most = div-le_of_le-mul (c.args.w * c.args.h) (omega arith)

pub returns : goal.returns
unfolding stats_of
returns c =
    let sad = ap (λ (n : ℕ). n / (c.args.w * c.args.h)) (shifted (goal.at.returns c).Start) in
    λ i. record { mv = c.shl.ensures i; normalized_sad = sad i }

pub overflow_cast-result-2 : goal.overflow_cast-result-2
overflow_cast-result-2 c =
    let start = (goal.at.overflow_cast-result-2 c).Start in
    record { fits = rw (shifted start) (omega (arith, normal_most start)) }
