-- `refusal::refusals::plane_ok` meets its contract: a plane of a frame has far fewer than 2 ^ 64 samples.
use mathlib.Core.Path.{◌≡◌, ap, ◌∙◌}
use Prim.Native.Nat.{ℕ, ◌+◌, ◌*◌, ◌/◌, ◌≤◌, ◌^◌}
use native.Mathlib.Nat.{mul-le-mul, div-le_self}
use native.Mathlib.Omega.{arith}
use lib.Dec.{leb}
use Rattle.motion.specs.declared.block.Plane.{Plane}
use Rattle.motion.specs.declared.level.Level.{Level}
use Rattle.motion.specs.Level.{level_of}
use Rattle.motion.specs.Block.{plane_of}
use Rattle.refusal.specs.Refusals.{plane_ok}
use Rattle.refusal.proofs.RefusalLaws.{row-bounds}
use Rattle.refusal.proofs.refusals.plane_ok.Goals.{After-plane_of-plane}
use Rattle.refusal.proofs.refusals.plane_ok.Goals as goal

plane_is : (c : After-plane_of-plane) → c.plane_of-plane.result ≡ plane_of c.args.width c.args.height (level_of c.args.level)
plane_is c =
    let a = c.args in
    c.plane_of-plane.ensures ∙ ap (λ (l : Level). plane_of a.width a.height l) c.level_of.ensures

-- a padded side is shorter than 2 ^ 12
short : (side level : ℕ) → side ≤ 1024 → side / 2 ^ (level_of level).ssdec + 2 * (level_of level).pad ≤ 2 ^ 12
short side level h = omega (arith, div-le_self side (2 ^ (level_of level).ssdec), (row-bounds level).1)

pub plane_of-plane-requires : goal.plane_of-plane-requires
plane_of-plane-requires c =
    let level = c.args.level in
    let shift = ap (λ (l : Level). l.ssdec) c.level_of.ensures in
    let pad = ap (λ (l : Level). l.pad) c.level_of.ensures in
    omega (arith, shift, pad, (row-bounds level).0, (row-bounds level).1)

pub overflow_mul-result : goal.overflow_mul-result
unfolding plane_of
overflow_mul-result c =
    let a = c.args in
    let p = plane_is (goal.at.overflow_mul-result c).After-plane_of-plane in
    let across = ap (λ (q : Plane). q.stride) p in
    let down = ap (λ (q : Plane). q.rows) p in
    let most = mul-le-mul {n₁ = c.plane_of-plane.result.stride} {m₁ = c.plane_of-plane.result.rows} {n₂ = 2 ^ 12} {m₂ = 2 ^ 12} (omega (arith, across, short a.width a.level c.requires.0)) (omega (arith, down, short a.height a.level c.requires.1)) in
    omega (arith, most)

pub returns : goal.returns
unfolding plane_ok
returns c = ap (λ (p : Plane). leb (p.stride * p.rows) c.args.len) (plane_is (goal.at.returns c).After-plane_of-plane)
