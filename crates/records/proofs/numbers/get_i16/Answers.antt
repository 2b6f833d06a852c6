-- `records::numbers::get_i16` meets its contract: the bits are those of two bytes.
use Rattle.std.proofs.Common.{◌≡◌, ◌+◌, ◌*◌, ap, ◌∙◌, get_or, to_z, arith}
use Rattle.std.specs.Int.{w16}
use Rattle.ground.proofs.Words.{back}
use Rattle.std.proofs.Math.Seq.{slice}
use Rattle.records.specs.Numbers.{number_of}
use Rattle.records.proofs.NumberLaws.{two_bytes}
use Rattle.records.proofs.numbers.get_i16.Goals as goal

pub returns : goal.returns
returns c =
    let file = c.args.file.now in
    let at = c.args.at in
    let two : get_or file at 0 + get_or file (at + 1) 0 * 256 ≡ number_of (slice at (at + 2) file) = omega (arith, two_bytes file at c.requires) in
    back w16 c.from_le_bytes.result c.from_le_bytes.type_inv ∙ c.from_le_bytes.ensures ∙ ap (to_z w16) two
