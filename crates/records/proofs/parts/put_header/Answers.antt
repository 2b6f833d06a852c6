-- `records::parts::put_header` meets its contract: two bytes go behind the mark.
use Rattle.records.specs.Records.{header_record}
use Rattle.records.proofs.parts.put_header.Goals as goal

pub returns : goal.returns
unfolding header_record
returns c = rw c.put_mark.ensures
