-- `listing::cells::put_place` meets its contract: each part goes behind the one before it.
use Rattle.listing.specs.Parts.{place_text}
use Rattle.listing.proofs.LineLaws.{spaced}
use Rattle.listing.proofs.cells.put_place.Goals as goal

pub returns : goal.returns
unfolding place_text
returns c = spaced c.put_decimal.ensures c.put_byte.ensures c.put_decimal-2.ensures
