-- `report::lines::put_cell_line` meets its contract: each part goes behind the one before it.
use Rattle.text.proofs.PutLaws.{puts_behind}
use Rattle.listing.proofs.LineLaws.{spaced}
use Rattle.report.specs.Lines.{cell_line}
use Rattle.report.proofs.lines.put_cell_line.Goals as goal

pub returns-clause-put : goal.returns-clause-put
unfolding cell_line
returns-clause-put c =
    puts_behind (spaced c.put_place.ensures c.put_byte.ensures
    (spaced c.put_cell_text.ensures c.put_byte-2.ensures c.put_cell_text-2.ensures)) c.put_byte-3.ensures
