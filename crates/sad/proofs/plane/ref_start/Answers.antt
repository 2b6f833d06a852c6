-- `sad::plane::ref_start` meets its contract.
use mathlib.Core.Path.{◌≡◌, sym, ap, ap₂, ◌∙◌}
use Prim.Native.Nat.{ℕ, ◌+◌, ◌*◌, ◌≤◌, ◌^◌}
use native.Mathlib.Omega.{arith}
use lib.IntN.{ℤ, pos, nat_abs, ◌+ℤ◌}
use mir.Syntax.{w16}
use mir.Val.{SFits}
use mir.ValLaws.{to_z-of_z}
use Rattle.sad.specs.Plane.{moved, ref_start}
use Rattle.sad.proofs.Places.{sample_is, place-le, scaled}
use borrow.Author.Rules.{rules}
use Rattle.sad.proofs.plane.ref_start.Goals.{After-place-x}
use Rattle.sad.proofs.plane.ref_start.Goals as goal

module _ (c : After-place-x) where
  row_fits : SFits w16 c.args.mv.row
  row_fits = search rules

  col-fits : SFits w16 c.args.mv.col
  col-fits = search rules

  y_is : c.place-y.result ≡ nat_abs (moved c.args.b.po_y c.args.mv.row +ℤ pos c.args.b.pad)
  y_is =
      let a = c.args in
      c.place-y.ensures
      ∙ ap (λ (z : ℤ). nat_abs (moved a.b.po_y z +ℤ pos a.b.pad)) (to_z-of_z w16 a.mv.row row_fits)

  x_is : c.place-x.result ≡ nat_abs (moved c.args.b.po_x c.args.mv.col +ℤ pos c.args.b.pad)
  x_is =
      let a = c.args in
      c.place-x.ensures
      ∙ ap (λ (z : ℤ). nat_abs (moved a.b.po_x z +ℤ pos a.b.pad)) (to_z-of_z w16 a.mv.col col-fits)

  product : c.place-y.result * c.args.b.stride ≤ 2 ^ 36
  product =
      let b = c.args.b in
      let m = c.requires.0 in
      let small = place-le b.po_y row_fits m.down b.pad m.pad in
      scaled c.place-y.result b.stride (omega (arith, y_is, small)) m.stride

pub overflow_mul-result : goal.overflow_mul-result
overflow_mul-result c = omega (arith, product (goal.at.overflow_mul-result c).After-place-x)

pub overflow_add-result : goal.overflow_add-result
overflow_add-result c =
    let b = c.args.b in
    let m = c.requires.0 in
    let placed = (goal.at.overflow_add-result c).After-place-x in
    omega (arith, product placed, x_is placed, place-le b.po_x (col-fits placed) m.across b.pad m.pad)

pub returns : goal.returns
unfolding ref_start
returns c =
    let b = c.args.b in
    let v = c.args.mv in
    let placed = (goal.at.returns c).After-place-x in
    ap₂ (λ (y x : ℕ). y * b.stride + x) (y_is placed) (x_is placed)
    ∙ sym (sample_is b.stride b.pad (moved b.po_x v.col) (moved b.po_y v.row) c.requires.1.left c.requires.1.up)
