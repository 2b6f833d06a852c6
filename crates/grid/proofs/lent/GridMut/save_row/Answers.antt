-- `grid::lent::GridMut::save_row` meets its contract: after the turns up to `fours` the cells of so many fours hold the result.
use Rattle.std.proofs.Common.{ℕ, ap, ◌∙◌, arith}
use Rattle.grid.specs.Save.{up_to, save_where}
use Rattle.grid.specs.Lent.{lent_mut}
use Rattle.grid.proofs.SaveLaws.{save_begins, save_on}
use Rattle.grid.proofs.LentLaws.{same-refl, same-trans}
use Rattle.grid.proofs.lent.GridMut.save_row.Goals as goal

pub loop-fours-init : goal.loop-fours-init
loop-fours-init c = (save_begins (omega arith) _ _, same-refl _)

pub loop-fours-preserved : goal.loop-fours-preserved
loop-fours-preserved c =
    let a = c.args in
    let next = λ (to : ℕ). save_where (up_to a.from to) a.stats (lent_mut a.self.now) in (
      c.fill.ensures.saved ∙ save_on (omega arith) (omega arith) _ _ c.loop-fours.invariant.0 ∙ ap next (omega arith),
      same-trans c.loop-fours.invariant.1 c.fill.ensures.same,
    )

pub returns-clause-saved : goal.returns-clause-saved
returns-clause-saved c =
    let rest = λ (from : ℕ). save_where (up_to from c.args.to) c.args.stats (lent_mut c.loop-fours.self) in
    c.save_rest.ensures.saved ∙ ap rest (omega arith) ∙ save_on (omega arith) (omega arith) _ _ c.loop-fours.invariant.0
