-- `text::writer::Writer::put_decimal` meets its contract: the tenth's digits are put, and the last digit behind them. The measure is the number.
use Rattle.std.proofs.Common.{◌/◌, arith}
use Rattle.text.specs.Decimal.{decimal, digits_in}
use Rattle.text.specs.Put.{Puts}
use Rattle.text.proofs.PutLaws.{puts_nothing, puts_behind}
use Rattle.text.proofs.DecimalLaws.{front_none, front_tenth, length_more, decimal-least}
use Rattle.text.proofs.writer.Writer.+put_decimal.Goals.{then-n-gt0, else-n-gt0}
use Rattle.text.proofs.writer.Writer.+put_decimal.Goals as goal

pub put_decimal-requires : goal.put_decimal-requires
put_decimal-requires t c = (omega arith, omega (arith, length_more c.args.n (omega arith)))

pub put_byte-requires : goal.put_byte-requires
put_byte-requires t c =
    elim c.if-n-gt0.branch [
      | then-n-gt0 w ↦ rw w.self-is (omega (arith, length_more c.args.n (omega arith)))
      | else-n-gt0 w ↦ rw w.self-is (omega (arith, decimal-least c.args.n))
    ]

pub returns : goal.returns
unfolding decimal
returns t c =
    let n = c.args.n in
    let front : Puts (digits_in n (n / 10)) c.args.self.now c.if-n-gt0.self =
    elim c.if-n-gt0.branch [
      | then-n-gt0 w ↦ rw (w.self-is, front_tenth n (omega arith)) w.put_decimal.ensures
      | else-n-gt0 w ↦ rw (w.self-is, front_none n (omega arith)) (puts_nothing _)
    ] in
    puts_behind front c.put_byte.ensures
