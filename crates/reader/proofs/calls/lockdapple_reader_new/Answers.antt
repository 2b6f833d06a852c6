-- `reader::calls::lockdapple_reader_new` meets its contract. Assumes nothing.
use Rattle.reader.specs.Calls.{new_reader}
use Rattle.reader.proofs.calls.lockdapple_reader_new.Goals as goal

pub returns : goal.returns
unfolding new_reader
returns c = c.between.ensures
