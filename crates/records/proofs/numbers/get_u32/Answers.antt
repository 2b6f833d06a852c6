-- `records::numbers::get_u32` meets its contract: two bytes, and two behind them.
use Rattle.std.proofs.Common.{◌+◌, arith}
use Rattle.records.proofs.NumberLaws.{two_bytes, four_bytes}
use Rattle.records.proofs.numbers.get_u32.Goals as goal

pub returns : goal.returns
returns c =
    let file = c.args.file.now in
    let at = c.args.at in
    grind (arith, c.from_le_bytes.ensures, four_bytes file at c.requires, two_bytes file at (omega arith), two_bytes file (at + 2) (omega arith))
