-- `search::full::search_row` meets its contract: after k turns the best is that of k columns.
use borrow.Author.Rules.{rules}
use mathlib.Core.Path.{◌≡◌, sym, ap, ap₂, ◌∙◌}
use native.Mathlib.Omega.{arith}
use lib.IntN.{ℤ}
use mir.Syntax.{w16}
use mir.Val.{SFits, to_z, of_z}
use mir.ValLaws.{to_z-of_z}
use Rattle.ground.proofs.Words.{back}
use Rattle.motion.proofs.VectorLaws.{vector}
use Rattle.sad.specs.Planes.{rd_in}
use Rattle.points.specs.Window.{span_at}
use Rattle.search.specs.declared.result.MotionSearchResult.{MotionSearchResult}
use Rattle.search.specs.Result.{try_one, try_each}
use Rattle.search.specs.Full.{row_of}
use Rattle.search.proofs.ResultLaws.{each_none, each_more}
use Rattle.search.proofs.full.search_row.Goals as goal

pub loop-k-init : goal.loop-k-init
loop-k-init c =
    let a = c.args in
    sym (each_none (rd_in a.p.now) a.current (λ j. vector (to_z w16 (of_z w16 a.row)) (span_at a.cols.lo j)))

pub loop-k-preserved : goal.loop-k-preserved
loop-k-preserved c =
    let a = c.args in
    let rd = rd_in a.p.now in
    let row = to_z w16 (of_z w16 a.row) in
    let lo : SFits w16 a.cols.lo = search rules in
    let col = back w16 c.span_at-col.result (search rules) ∙ c.span_at-col.ensures ∙ ap (λ (z : ℤ). span_at z c.loop-k.k) (to_z-of_z w16 a.cols.lo lo) in
    c.try_mv-best.ensures ∙ ap₂ (λ (m : MotionSearchResult) (z : ℤ). try_one rd m (vector row z)) c.loop-k.invariant col
    ∙ sym (each_more rd a.current c.loop-k.k (λ j. vector row (span_at a.cols.lo j)))

pub returns : goal.returns
unfolding row_of
returns c =
    let a = c.args in
    let done : c.loop-k.k ≡ a.cols.count = omega arith in
    c.loop-k.invariant
    ∙ λ i. try_each (rd_in a.p.now) a.current (done i) (λ j. vector (to_z-of_z w16 a.row c.ranges.row i) (span_at a.cols.lo j))
