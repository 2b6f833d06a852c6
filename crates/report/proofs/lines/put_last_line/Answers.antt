-- `report::lines::put_last_line` meets its contract: each part goes behind the one before it.
use Rattle.text.specs.Ascii.{ascii}
use Rattle.text.proofs.PutLaws.{puts_behind}
use Rattle.report.specs.Lines.{last_line}
use Rattle.report.proofs.lines.put_last_line.Goals as goal

pub returns-clause-put : goal.returns-clause-put
unfolding last_line ascii
returns-clause-put c =
    puts_behind (puts_behind c.put_text.ensures (puts_behind c.put_decimal.ensures (puts_behind c.put_text-2.ensures c.put_decimal-2.ensures))) c.put_byte.ensures
