-- `searches::refinement::window_at` meets its contract: 16 bits hold the offsets of a window.
use Rattle.std.proofs.Common.{ℕ, ◌<◌, sym, subst, arith}
use mir.Syntax.{w16}
use mir.Val.{SFits}
use Rattle.points.specs.declared.window.Window.{Window}
use Rattle.points.specs.Window.{refine_window}
use Rattle.points.specs.Asked.{Spanned}
use Rattle.points.proofs.SpanLaws.{refine-spanned}
use Rattle.searches.proofs.refinement.window_at.Goals as goal

pub returns-clause-rows_spanned : goal.returns-clause-rows_spanned
unfolding refine_window
returns-clause-rows_spanned c =
    let a = c.args in
    let low : SFits w16 a.range.mvy_min = record { sfits = omega arith } in
    let high : SFits w16 a.range.mvy_max = record { sfits = omega arith } in
    let held : SFits w16 a.stored.row = record { sfits = omega arith } in
    subst (λ (w : Window). (k : ℕ) → k < w.rows.count → Spanned w.rows.lo k) (sym c.refine_window.ensures) (refine-spanned a.range.mvy_min a.range.mvy_max a.stored.row a.ssdec low high held)

pub returns-clause-cols_spanned : goal.returns-clause-cols_spanned
unfolding refine_window
returns-clause-cols_spanned c =
    let a = c.args in
    let low : SFits w16 a.range.mvx_min = record { sfits = omega arith } in
    let high : SFits w16 a.range.mvx_max = record { sfits = omega arith } in
    let held : SFits w16 a.stored.col = record { sfits = omega arith } in
    subst (λ (w : Window). (k : ℕ) → k < w.cols.count → Spanned w.cols.lo k) (sym c.refine_window.ensures) (refine-spanned a.range.mvx_min a.range.mvx_max a.stored.col a.ssdec low high held)
