-- `superblock::blocks::Blocks::x` meets its contract.
use mathlib.Core.Path.{◌≡◌, ap, ap₂, ◌∙◌}
use Prim.Native.Nat.{ℕ, ◌+◌, ◌*◌, ◌/◌, ◌%◌, ◌<◌}
use native.Mathlib.Nat.{mul-le-mul, mod-lt}
use native.Mathlib.Omega.{arith}
use Rattle.motion.specs.Superblock.{superblock_x}
use Rattle.superblock.specs.Step.{blocks_along, block_x}
use Rattle.superblock.proofs.GeometryLaws.{column_begins, along_some, along_below}
use Rattle.superblock.proofs.blocks.Blocks.x.Goals.{After-blocks_along}
use Rattle.superblock.proofs.blocks.Blocks.x.Goals as goal

-- how many blocks there are across
across-is : (c : After-blocks_along) → c.blocks_along.result ≡ blocks_along c.args.self.now.width c.args.self.now.mv_size (superblock_x c.args.self.now.width c.args.self.now.superblock)
across-is c =
    let a = c.args in
    c.blocks_along.ensures ∙ ap (λ (b : ℕ). blocks_along a.self.now.width a.self.now.mv_size b) c.superblock_x-first.ensures

some-across : (c : After-blocks_along) → 0 < c.blocks_along.result
some-across c =
    omega (arith, across-is c, along_some (column_begins c.args.self.now.wide c.args.self.now.superblock) c.args.self.now.some)

pub blocks_along-requires : goal.blocks_along-requires
blocks_along-requires c =
    (c.args.self.now.wide.most, omega (arith, (column_begins c.args.self.now.wide c.args.self.now.superblock).inside, c.superblock_x-first.ensures), c.args.self.now.some, c.args.self.now.most)

pub nonzero_rem-result : goal.nonzero_rem-result
nonzero_rem-result c = some-across c

pub overflow_mul-result : goal.overflow_mul-result
overflow_mul-result c =
    let a = c.args in
    let few = along_below a.self.now.width a.self.now.mv_size c.superblock_x-first.result c.args.self.now.most in
    let most = mul-le-mul {n₁ = a.self.now.mv_size / 4} {m₁ = a.k % c.blocks_along.result} {n₂ = 16} {m₂ = 127}
    (omega (arith, c.args.self.now.most)) (omega (arith, few, c.blocks_along.ensures, mod-lt a.k (some-across c))) in
    omega (arith, most)

pub overflow_add-result : goal.overflow_add-result
overflow_add-result c =
    let a = c.args in
    let few = along_below a.self.now.width a.self.now.mv_size c.superblock_x-first.result c.args.self.now.most in
    let most = mul-le-mul {n₁ = a.self.now.mv_size / 4} {m₁ = a.k % c.blocks_along.result} {n₂ = 16} {m₂ = 127}
    (omega (arith, c.args.self.now.most)) (omega (arith, few, c.blocks_along.ensures, mod-lt a.k (some-across c))) in
    omega (arith, most, (column_begins c.args.self.now.wide a.self.now.superblock).inside, c.args.self.now.wide.most, c.superblock_x-first.ensures)

pub returns : goal.returns
unfolding block_x
returns c =
    let a = c.args in
    ap₂ (λ (x n : ℕ). x + a.self.now.mv_size / 4 * (a.k % n)) c.superblock_x-first.ensures (across-is c)
