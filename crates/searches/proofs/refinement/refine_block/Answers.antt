-- `searches::refinement::refine_block` meets its contract: a window that is not empty is searched.
use Rattle.std.proofs.Common.{sym, ap, ◌∙◌}
use Rattle.refusal.specs.declared.kinds.Refusal.TheVariants as kind
use Rattle.refusal.specs.Refusals.{refuse}
use Rattle.refusal.proofs.RefusalLaws.{refuse-is}
use Rattle.points.specs.Window.{window_ok}
use Rattle.sad.specs.Planes.{rd_in}
use Rattle.search.specs.declared.result.MotionSearchResult.{MotionSearchResult}
use Rattle.search.specs.Full.{full_search, refine}
use Rattle.single.specs.Found.{found_of, found_from}
use Rattle.single.proofs.AnswerLaws.{refused-is, done-is}
use Rattle.searches.specs.Refinement.{window_answer}
use Rattle.searches.proofs.refinement.refine_block.Goals as goal

pub returns-then-not-ok : goal.returns-then-not-ok
unfolding found_from window_answer
returns-then-not-ok c =
    let is = c.ok.ensures ∙ ap window_ok c.window_at-window.ensures.window in
    refused-is kind.Window _ _ (sym (refuse-is 8 _ (sym is ∙ c.if-not-ok.true)))

pub returns : goal.returns
unfolding found_from window_answer refine refuse
returns c =
    let window = c.window_at-window.ensures.window in
    let is = c.ok.ensures ∙ ap window_ok window in
    let best = c.full_search.ensures ∙ ap (full_search (rd_in c.args.p.now)) window in
    ap (λ (m : MotionSearchResult). found_of m.mv m.rd) best
    ∙ done-is _ _ (sym (ap (refuse 8) (sym is ∙ c.if-not-ok.false)))
