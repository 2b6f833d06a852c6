-- `superblock::blocks::Blocks::y` meets its contract.
use mathlib.Core.Path.{◌≡◌, ap, ap₂, ◌∙◌}
use Prim.Native.Nat.{ℕ, ◌+◌, ◌*◌, ◌/◌, ◌≤◌}
use native.Mathlib.Nat.{mul-le-mul, div-le_self}
use native.Mathlib.Omega.{arith}
use Rattle.motion.specs.Superblock.{superblock_x}
use Rattle.superblock.specs.Step.{blocks_along, block_y}
use Rattle.superblock.proofs.GeometryLaws.{column_begins, row-most, along_some, superblocks-most}
use Rattle.superblock.proofs.blocks.Blocks.y.Goals.{After-blocks_along-across, After-superblock_y}
use Rattle.superblock.proofs.blocks.Blocks.y.Goals as goal

-- how many blocks there are across
across-is : (c : After-blocks_along-across) → c.blocks_along-across.result ≡ blocks_along c.args.self.now.width c.args.self.now.mv_size (superblock_x c.args.self.now.width c.args.self.now.superblock)
across-is c =
    let a = c.args in
    c.blocks_along-across.ensures ∙ ap (λ (b : ℕ). blocks_along a.self.now.width a.self.now.mv_size b) c.superblock_x-first.ensures

-- a superblock and a block count few rows
down-most : (c : After-superblock_y) → c.args.self.now.mv_size / 4 * (c.args.k / c.blocks_along-across.result) ≤ 16 * 1024
down-most c =
    let a = c.args in
    mul-le-mul {n₁ = a.self.now.mv_size / 4} {m₁ = a.k / c.blocks_along-across.result} {n₂ = 16} {m₂ = 1024}
    (omega (arith, c.args.self.now.most)) (omega (arith, c.requires, div-le_self a.k c.blocks_along-across.result))

pub blocks_along-across-requires : goal.blocks_along-across-requires
blocks_along-across-requires c =
    (c.args.self.now.wide.most, omega (arith, (column_begins c.args.self.now.wide c.args.self.now.superblock).inside, c.superblock_x-first.ensures), c.args.self.now.some, c.args.self.now.most)

pub nonzero_div-result-2 : goal.nonzero_div-result-2
nonzero_div-result-2 c =
    omega (arith, across-is (goal.at.nonzero_div-result-2 c).After-blocks_along-across, along_some (column_begins c.args.self.now.wide c.args.self.now.superblock) c.args.self.now.some)

pub superblock_y-requires : goal.superblock_y-requires
superblock_y-requires c =
    let s = c.args.self.now in
    (omega (arith, s.wide.least), s.wide.most, omega (arith, s.inside, superblocks-most s.wide s.high))

pub overflow_add-result : goal.overflow_add-result
overflow_add-result c =
    let s = c.args.self.now in
    omega (arith, down-most c, c.superblock_y.ensures, row-most s.width s.superblock, s.inside, superblocks-most s.wide s.high)

pub returns : goal.returns
unfolding block_y
returns c =
    let a = c.args in
    ap₂ (λ (y n : ℕ). y + a.self.now.mv_size / 4 * (a.k / n)) c.superblock_y.ensures (across-is (goal.at.returns c).After-blocks_along-across)
