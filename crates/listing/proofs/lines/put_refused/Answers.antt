-- `listing::lines::put_refused` meets its contract: the number goes behind the word, and the line's end behind it.
use Rattle.text.specs.Ascii.{ascii}
use Rattle.text.proofs.PutLaws.{puts_behind}
use Rattle.listing.specs.Lines.{refused_line}
use Rattle.listing.proofs.lines.put_refused.Goals as goal

pub returns-clause-put : goal.returns-clause-put
unfolding refused_line ascii
returns-clause-put c =
    puts_behind (puts_behind c.put_text.ensures (rw c.from.ensures at c.put_decimal.ensures)) c.put_byte.ensures
