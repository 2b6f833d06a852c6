-- `points::window::refine_span` meets its contract.
use borrow.Author.Rules.{rules}
use native.Mathlib.Omega.{arith}
use mathlib.Core.Path.{◌≡◌}
use Prim.Native.Nat.{◌^◌}
use lib.IntN.{pos, ◌-ℤ◌, ◌+ℤ◌}
use lib.Signed.{quot_z, shr_z}
use mir.Syntax.{w16}
use mir.Val.{SFits}
use Rattle.std.proofs.lemmas.Int.{to_z-of_z}
use Rattle.ground.proofs.Words.{shr_fits}
use Rattle.points.specs.Window.{larger, smaller, refine_span}
use Rattle.points.proofs.SpanLaws.{first-size, last-size, lo_size, hi_size}
use Rattle.points.proofs.window.refine_span.Goals.{After-max-lo, After-min-hi}
use Rattle.points.proofs.window.refine_span.Goals as goal

lo_is : (c : After-max-lo) → c.max-lo.result ≡ larger (quot_z (shr_z c.args.stored (2 ^ c.args.ssdec)) (pos 8) -ℤ pos 1) (quot_z c.args.min (pos 8))
unfolding larger
lo_is c =
    let a = c.args in
    let f = c.ranges in
    let shifted : SFits w16 (shr_z a.stored (2 ^ a.ssdec)) = shr_fits f.stored (2 ^ a.ssdec) in
    let m : c.eighth-m.result ≡ quot_z (shr_z a.stored (2 ^ a.ssdec)) (pos 8) = grind (arith, to_z-of_z) in
    let end : c.eighth.result ≡ quot_z a.min (pos 8) = grind (arith, to_z-of_z) in
    let m_fits : SFits w16 c.eighth-m.result = search rules in
    let end_fits : SFits w16 c.eighth.result = search rules in
    let less_fits : SFits w16 (c.eighth-m.result -ℤ pos 1) = rw m (record { sfits = omega (arith, first-size a.min a.max a.stored a.ssdec f.min f.max f.stored) }) in
    rw (← m, ← end) (simp to_z-of_z at c.max-lo.ensures.value)

hi_is : (c : After-min-hi) → c.min-hi.result ≡ smaller (quot_z (shr_z c.args.stored (2 ^ c.args.ssdec)) (pos 8) +ℤ pos 2) (quot_z c.args.max (pos 8))
unfolding smaller
hi_is c =
    let a = c.args in
    let f = c.ranges in
    let shifted : SFits w16 (shr_z a.stored (2 ^ a.ssdec)) = shr_fits f.stored (2 ^ a.ssdec) in
    let m : c.eighth-m.result ≡ quot_z (shr_z a.stored (2 ^ a.ssdec)) (pos 8) = grind (arith, to_z-of_z) in
    let end : c.eighth-2.result ≡ quot_z a.max (pos 8) = grind (arith, to_z-of_z) in
    let m_fits : SFits w16 c.eighth-m.result = search rules in
    let end_fits : SFits w16 c.eighth-2.result = search rules in
    let more_fits : SFits w16 (c.eighth-m.result +ℤ pos 2) = rw m (record { sfits = omega (arith, last-size a.min a.max a.stored a.ssdec f.min f.max f.stored) }) in
    rw (← m, ← end) (simp to_z-of_z at c.min-hi.ensures.value)

pub span_count-requires : goal.span_count-requires
span_count-requires c =
    let a = c.args in
    let f = c.ranges in
    let lo_fits : SFits w16 c.max-lo.result = search rules in
    let hi_fits : SFits w16 c.min-hi.result = search rules in (
      rw (to_z-of_z w16 c.max-lo.result lo_fits, lo_is (goal.at.span_count-requires c).After-max-lo) (lo_size a.min a.max a.stored a.ssdec f.min f.max f.stored),
      rw (to_z-of_z w16 c.min-hi.result hi_fits, hi_is c) (hi_size a.min a.max a.stored a.ssdec f.min f.max f.stored),
    )

pub returns : goal.returns
unfolding refine_span
returns c =
    let lo_fits : SFits w16 c.max-lo.result = search rules in
    let hi_fits : SFits w16 c.min-hi.result = search rules in
    rw (c.span_count.ensures, to_z-of_z w16 c.max-lo.result lo_fits, to_z-of_z w16 c.min-hi.result hi_fits, lo_is (goal.at.returns c).After-max-lo, hi_is (goal.at.returns c).After-min-hi)
