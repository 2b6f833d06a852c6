-- `search::full::full_search` meets its contract: after k turns the best is that of k rows.
use borrow.Author.Rules.{rules}
use mathlib.Core.Path.{◌≡◌, sym, ap, ap₂, ◌∙◌}
use native.Mathlib.Omega.{arith}
use lib.IntN.{ℤ}
use mir.Syntax.{w16}
use mir.Val.{SFits}
use mir.ValLaws.{to_z-of_z}
use Rattle.ground.proofs.Words.{back}
use Rattle.sad.specs.Planes.{rd_in}
use Rattle.points.specs.Window.{span_at}
use Rattle.search.specs.declared.result.MotionSearchResult.{MotionSearchResult}
use Rattle.search.specs.Full.{row_of, window_to, full_search}
use Rattle.search.proofs.FullLaws.{window_none, window_more}
use Rattle.search.proofs.full.full_search.Goals as goal

pub loop-k-init : goal.loop-k-init
loop-k-init c =
    let a = c.args in
    c.empty-best.ensures ∙ sym (window_none (rd_in a.p.now) a.window.rows a.window.cols)

pub loop-k-preserved : goal.loop-k-preserved
loop-k-preserved c =
    let a = c.args in
    let lo : SFits w16 a.window.rows.lo = search rules in
    let row = back w16 c.span_at-row.result (search rules) ∙ c.span_at-row.ensures ∙ ap (λ (z : ℤ). span_at z c.loop-k.k) (to_z-of_z w16 a.window.rows.lo lo) in
    c.search_row-best.ensures ∙ ap₂ (λ (m : MotionSearchResult) (z : ℤ). row_of (rd_in a.p.now) m z a.window.cols) c.loop-k.invariant row
    ∙ sym (window_more (rd_in a.p.now) a.window.rows a.window.cols c.loop-k.k)

pub returns : goal.returns
unfolding full_search
returns c =
    let a = c.args in
    let done : c.loop-k.k ≡ a.window.rows.count = omega arith in
    c.loop-k.invariant ∙ ap (window_to (rd_in a.p.now) a.window.rows a.window.cols) done
