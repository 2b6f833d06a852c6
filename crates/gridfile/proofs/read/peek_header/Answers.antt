-- `gridfile::read::peek_header` meets its contract: the header is all that it looks at. Assumes nothing.
use Rattle.gridfile.specs.Peek.{peek_refusal}
use Rattle.gridfile.proofs.RefusedLaws.{peek_answers}
use Rattle.gridfile.proofs.read.peek_header.Goals as goal

pub returns : goal.returns
unfolding peek_refusal
returns c = peek_answers c.header.result c.args.file.now c.header.ensures.number c.header.ensures.said
