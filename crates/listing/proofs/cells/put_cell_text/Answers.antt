-- `listing::cells::put_cell_text` meets its contract: each part goes behind the one before it. Components are held in bits.
use borrow.Author.Rules.{rules}
use mir.Syntax.{w16}
use mir.Val.{SFits}
use mir.ValLaws.{to_z-of_z}
use Rattle.listing.specs.Parts.{cell_text}
use Rattle.listing.proofs.LineLaws.{spaced}
use Rattle.listing.proofs.cells.put_cell_text.Goals as goal

pub returns : goal.returns
unfolding cell_text
returns c =
    let row : SFits w16 c.args.cell.mv.row = search rules in
    let col : SFits w16 c.args.cell.mv.col = search rules in
    spaced (rw to_z-of_z at c.put_signed.ensures) c.put_byte.ensures
    (spaced (rw to_z-of_z at c.put_signed-2.ensures) c.put_byte-2.ensures (rw c.from.ensures at c.put_decimal.ensures))
