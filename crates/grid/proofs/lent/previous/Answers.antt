-- `grid::lent::previous` meets its contract.
use Rattle.std.proofs.Common.{◌≡◌, Bool, true, false, refl, arith}
use Rattle.std.proofs.lemmas.Bool.{ne_eqb}
use Rattle.grid.specs.Previous.{previous}
use Rattle.grid.proofs.lent.previous.Goals as goal

pub returns-then-present-eq0 : goal.returns-then-present-eq0
unfolding previous
returns-then-present-eq0 c =
    let absent : c.args.present ≡ 0 = omega arith in
    rw absent (record { present = refl; grid = λ e. absurd (let z : ◌≡◌ {A = Bool} false true = e in cc) })

pub returns-else-present-eq0 : goal.returns-else-present-eq0
unfolding previous
returns-else-present-eq0 c = rw (ne_eqb c.args.present 0 c.if-present-eq0.false) (record { present = refl; grid = λ e. refl })
