-- `held::state::between` meets its contract. Assumes nothing.
use mathlib.Core.Path.{refl}
use Rattle.held.specs.Held.{reader_of}
use Rattle.held.proofs.state.between.Goals as goal

pub returns : goal.returns
unfolding reader_of
returns c = refl
