-- `text::writer::Writer::put_signed` meets its contract: a negative number's digits go behind a minus.
use Rattle.std.proofs.Common.{◌≡◌, ◌∙◌, ap, cond, [], ◌∷◌, length, length-append, arith, pos}
use Prim.Native.Char.{code}
use lib.IntN.{nat_abs}
use lib.Signed.{lt_z}
use mir.Syntax.{w16}
use mir.ValLaws.{to_z-of_z}
use Rattle.text.specs.Decimal.{signed}
use Rattle.text.specs.Put.{Puts}
use Rattle.text.proofs.PutLaws.{puts_nothing, puts_behind}
use Rattle.text.proofs.DecimalLaws.{minus}
use Rattle.text.proofs.writer.Writer.put_signed.Goals.{After-from, then-x-lt0, else-x-lt0}
use Rattle.text.proofs.writer.Writer.put_signed.Goals as goal

module _ (c : After-from) where
  digits : c.from.result ≡ nat_abs c.args.x
  digits = c.from.ensures ∙ c.unsigned_abs.ensures.value ∙ ap nat_abs (to_z-of_z w16 c.args.x c.ranges.x)

  front : Puts (cond (lt_z c.args.x (pos 0)) (code "-" ∷ []) []) c.args.self.now c.if-x-lt0.self
  front =
      elim c.if-x-lt0.branch [
        | then-x-lt0 w ↦ rw (w.self-is, rw (to_z-of_z w16 c.args.x c.ranges.x) at w.if-x-lt0.true) w.put_byte.ensures
        | else-x-lt0 w ↦ rw (w.self-is, rw (to_z-of_z w16 c.args.x c.ranges.x) at w.if-x-lt0.false) (puts_nothing _)
      ]

pub put_byte-requires : goal.put_byte-requires
put_byte-requires c =
    omega (arith, ap length (minus c.args.x (rw (to_z-of_z w16 c.args.x c.ranges.x) at c.if-x-lt0.true)))

pub put_decimal-requires : goal.put_decimal-requires
unfolding signed
put_decimal-requires c = rw (digits c) (omega (arith, (front c).put.next, (front c).length, rw length-append at c.requires))

pub returns : goal.returns
unfolding signed
returns c =
    let at-from = (goal.at.returns c).After-from in
    puts_behind (front at-from) (rw (digits at-from) at c.put_decimal.ensures)
