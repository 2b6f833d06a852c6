-- `listing::lines::put_listed` meets its contract: each part goes behind the one before it.
use Rattle.text.proofs.PutLaws.{puts_behind}
use Rattle.listing.specs.Lines.{listed_line}
use Rattle.listing.proofs.LineLaws.{spaced}
use Rattle.listing.proofs.lines.put_listed.Goals as goal

pub returns-clause-put : goal.returns-clause-put
unfolding listed_line
returns-clause-put c =
    puts_behind (spaced c.put_place.ensures c.put_byte.ensures c.put_cell_text.ensures) c.put_byte-2.ensures
