-- `searches::searches::single_search` meets its contract: a call that is not refused starts in range, inside its planes.
use Rattle.std.proofs.Common.{◌≡◌, sym, ap, ◌∙◌}
use Rattle.std.proofs.lemmas.Result.{err_from_is_err_and}
use Rattle.motion.specs.declared.block.Block.{Block}
use Rattle.motion.specs.Range.{in_range}
use Rattle.refusal.specs.declared.kinds.Refusal.TheVariants.{Vector}
use Rattle.refusal.specs.Refusals.{refuse}
use Rattle.refusal.proofs.KindsLaws.{err-then, ok-then}
use Rattle.refusal.proofs.RefusalLaws.{refuse-is}
use Rattle.sad.specs.Cost.{rd_at}
use Rattle.sad.specs.Planes.{rd_in}
use Rattle.search.specs.declared.result.MotionSearchResult.{MotionSearchResult}
use Rattle.search.specs.Result.{measured}
use Rattle.single.specs.Found.{found_of, found_from}
use Rattle.single.specs.Call.{block_at}
use Rattle.single.proofs.AnswerLaws.{refused-is, done-is}
use Rattle.searches.specs.Searches.{search_by, search_refusal, search_answer}
use Rattle.searches.proofs.searches.single_search.Goals.{After-holds}
use Rattle.searches.proofs.searches.single_search.Goals as goal

-- the test was of the range of the call's block
tested : (c : After-holds) → let a = c.args in c.holds.result ≡ in_range (block_at a.call.width a.call.height a.call.level 0 a.call.bx a.call.by).range a.mv
tested c =
    let a = c.args in
    let block = rw c.requires at c.in_ok-p.ensures.opened.0 in
    c.holds.ensures ∙ ap (λ (b : Block). in_range b.range a.mv) block

pub returns-in_err-p : goal.returns-in_err-p
unfolding found_from search_answer search_refusal
returns-in_err-p c =
    let p = err_from_is_err_and c.from_residual.result c.from_residual.ensures.1 in
    let code = rw c.requires at c.in_err-p.ensures.code in
    rw (p.1, p.2) (refused-is _ _ _ (err-then _ _ _ code))

pub returns-then-not-holds : goal.returns-then-not-holds
unfolding found_from search_answer search_refusal
returns-then-not-holds c =
    let code = rw c.requires at c.in_ok-p.ensures.code in
    let is = tested (goal.at.returns-then-not-holds c).After-holds in
    refused-is Vector _ _ (ok-then _ _ _ code (sym (refuse-is 9 _ (sym is ∙ c.if-not-holds.true))))

pub returns : goal.returns
unfolding found_from search_answer search_refusal refuse
returns c =
    let a = c.args in
    let opened = c.in_ok-p.ensures.opened in
    let code = rw c.requires at c.in_ok-p.ensures.code in
    let block = rw c.requires at opened.0 in
    let is = tested (goal.at.returns c).After-holds in
    let best = c.search_by.ensures
    ∙ ap (search_by a.method (rd_in c.in_ok-p.p)) c.measured-start.ensures
    ∙ (λ i. search_by a.method (rd_at (block i) (opened.1 i) (opened.2 i)) (measured (rd_at (block i) (opened.1 i) (opened.2 i)) a.mv)) in
    ap (λ (m : MotionSearchResult). found_of m.mv m.rd) best
    ∙ done-is _ _ (ok-then _ _ _ code (sym (ap (refuse 9) (sym is ∙ c.if-not-holds.false))))
