-- `single::leaves::candidate` meets its contract.
use Rattle.std.proofs.lemmas.Result.{err_from_is_err_and}
use Rattle.single.specs.Found.{found_from}
use Rattle.single.specs.Leaves.{candidate_answer}
use Rattle.single.proofs.AnswerLaws.{refused-is, done-is}
use Rattle.single.proofs.leaves.candidate.Goals as goal

pub returns-in_err-p : goal.returns-in_err-p
unfolding found_from candidate_answer
returns-in_err-p c =
    let p = err_from_is_err_and c.from_residual.result c.from_residual.ensures.1 in
    rw (p.1, p.2) (refused-is _ _ _ c.in_err-p.ensures.code)

pub returns : goal.returns
unfolding found_from candidate_answer
returns c =
    let p = c.in_ok-p.ensures.opened in
    rw (c.measured.ensures, p.0, p.1, p.2) (done-is _ _ c.in_ok-p.ensures.code)
