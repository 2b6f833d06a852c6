-- `superblock::blocks::Blocks::count` meets its contract.
use Rattle.std.proofs.Common.{ℕ, ◌*◌, ap, ap₂, ◌∙◌, arith}
use native.Mathlib.Nat.{mul-le-mul}
use Rattle.superblock.specs.Step.{blocks_along, block_count}
use Rattle.superblock.proofs.GeometryLaws.{column_begins, row-begins, superblocks-most, along_below}
use Rattle.superblock.proofs.blocks.Blocks.count.Goals as goal

pub superblock_y-y-requires : goal.superblock_y-y-requires
superblock_y-y-requires c =
    let s = c.args.self.now in
    (omega (arith, s.wide.least), s.wide.most, omega (arith, s.inside, superblocks-most s.wide s.high))

pub blocks_along-requires : goal.blocks_along-requires
blocks_along-requires c =
    let s = c.args.self.now in
    (s.wide.most, omega (arith, (column_begins s.wide s.superblock).inside, c.superblock_x-x.ensures), s.some, s.most)

pub blocks_along-requires-2 : goal.blocks_along-requires-2
blocks_along-requires-2 c =
    let s = c.args.self.now in
    (s.high.most, omega (arith, (row-begins s.wide s.high s.inside).inside, c.superblock_y-y.ensures), s.some, s.most)

pub overflow_mul-result : goal.overflow_mul-result
overflow_mul-result c =
    let s = c.args.self.now in
    let across = along_below s.width s.mv_size c.superblock_x-x.result s.most in
    let down = along_below s.height s.mv_size c.superblock_y-y.result s.most in
    let most = mul-le-mul {n₁ = c.blocks_along.result} {m₁ = c.blocks_along-2.result} {n₂ = 127} {m₂ = 127}
    (omega (arith, across, c.blocks_along.ensures)) (omega (arith, down, c.blocks_along-2.ensures)) in
    omega (arith, most)

pub returns : goal.returns
unfolding block_count
returns c =
    let s = c.args.self.now in
    ap₂ ◌*◌ (c.blocks_along.ensures ∙ ap (λ (b : ℕ). blocks_along s.width s.mv_size b) c.superblock_x-x.ensures)
    (c.blocks_along-2.ensures ∙ ap (λ (b : ℕ). blocks_along s.height s.mv_size b) c.superblock_y-y.ensures)
