-- `superblock::blocks::blocks_along` meets its contract: the quotient rounded up is that of the definition.
use Rattle.std.proofs.Common.{◌≡◌, ℕ, ◌+◌, ◌-◌, ◌/◌, ◌%◌, ◌≤◌, ◌<◌, min, ap, ◌∙◌, arith}
use Rattle.std.proofs.Math.Nat.{add-mul, le-div_iff_mul-le, div-lt_iff_lt-mul}
use Rattle.std.proofs.lemmas.Grind.{div_ceil_times}
use Rattle.superblock.specs.Step.{blocks_along}
use Rattle.superblock.proofs.blocks.blocks_along.Goals as goal

rounded_up : (n d : ℕ) → 0 < d → n / d + min 1 (n % d) ≡ (n + (d - 1)) / d
rounded_up n d some =
    let q = n / d + min 1 (n % d) in
    let times = div_ceil_times n d some in
    let least : q ≤ (n + (d - 1)) / d = (le-div_iff_mul-le {k = d} {x = q} {y = n + (d - 1)} some).1 (omega (arith, times.1)) in
    let most : (n + (d - 1)) / d < q + 1 = (div-lt_iff_lt-mul {k = d} {x = n + (d - 1)} {y = q + 1} some).1 (omega (arith, times.0, add-mul q 1 d)) in
    omega (arith, least, most)

pub returns : goal.returns
unfolding blocks_along
returns c =
    let size = c.args.mv_size in
    c.div_ceil.ensures ∙ rounded_up c.min.result size (omega (arith, c.requires)) ∙ ap (λ (n : ℕ). (n + (size - 1)) / size) (omega (arith, c.min.ensures))
