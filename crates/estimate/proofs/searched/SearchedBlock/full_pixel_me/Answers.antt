-- `estimate::searched::SearchedBlock::full_pixel_me` meets its contract: level 4 has a search of its own.
use Rattle.std.proofs.lemmas.Bool.{eq-eqb, ne_eqb}
use Rattle.estimate.specs.Block.{full_pixel_me}
use Rattle.estimate.proofs.searched.SearchedBlock.full_pixel_me.Goals as goal

pub returns-then-level-eq4 : goal.returns-then-level-eq4
unfolding full_pixel_me
returns-then-level-eq4 c = rw (eq-eqb c.args.level 4 c.if-level-eq4.true) c.extensive_search.ensures

pub returns-else-level-eq4 : goal.returns-else-level-eq4
unfolding full_pixel_me
returns-else-level-eq4 c = rw (ne_eqb c.args.level 4 c.if-level-eq4.false) c.short_search.ensures
