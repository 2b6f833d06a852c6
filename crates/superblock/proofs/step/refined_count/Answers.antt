-- `superblock::step::refined_count` meets its contract.
use Rattle.std.proofs.lemmas.Bool.{eq-eqb, ne_eqb}
use Rattle.superblock.proofs.step.refined_count.Goals as goal

pub returns-then-level-eq4 : goal.returns-then-level-eq4
returns-then-level-eq4 c = rw (eq-eqb c.args.level 4 c.if-level-eq4.true)

pub returns-else-level-eq4 : goal.returns-else-level-eq4
returns-else-level-eq4 c = rw (ne_eqb c.args.level 4 c.if-level-eq4.false) c.count.ensures
