-- `single::call::block_at` meets its contract: a block that is not refused stands inside its frame.
use Rattle.std.proofs.Common.{ap, arith}
use Rattle.motion.specs.declared.level.Level.{Level}
use Rattle.refusal.proofs.RefusalLaws.{accepted, size_bounds, row-bounds}
use Rattle.single.proofs.call.block_at.Goals as goal

pub block_of-requires-clause-inside : goal.block_of-requires-clause-inside
block_of-requires-clause-inside c =
    let a = c.args.call in
    let ok = accepted a.width a.height a.level a.refined a.bx a.by c.requires in
    omega (arith, ok.wide.most, ok.high.most, ok.across.inside, ok.down.inside)

pub block_of-requires-clause-small : goal.block_of-requires-clause-small
block_of-requires-clause-small c =
    let a = c.args.call in
    let row = row-bounds a.level in
    omega (arith, ap (λ (l : Level). l.ssdec) c.level_of.ensures, ap (λ (l : Level). l.pad) c.level_of.ensures, row.0, row.1, c.size.ensures, (size_bounds a.level a.refined).1)
