-- `listing::lines::put_heading` meets its contract: each part goes behind the one before it.
use Rattle.text.specs.Ascii.{ascii}
use Rattle.text.proofs.PutLaws.{puts_behind}
use Rattle.listing.specs.Lines.{heading_line}
use Rattle.listing.proofs.LineLaws.{spaced}
use Rattle.listing.proofs.lines.put_heading.Goals as goal

pub returns-clause-put : goal.returns-clause-put
unfolding heading_line ascii
returns-clause-put c =
    puts_behind (puts_behind c.put_text.ensures (spaced c.put_decimal.ensures c.put_byte.ensures c.put_decimal-2.ensures)) c.put_byte-2.ensures
