-- `gridfile::read::header` meets its contract: each return has the tests before it passed. Assumes nothing.
use Rattle.std.proofs.Common.{◌≡◌, ◌+◌, get_or, sym, ◌∙◌}
use Rattle.std.proofs.lemmas.Result.{err_from_is_err_and}
use Rattle.refusal.proofs.KindsLaws.{err-then}
use Rattle.refusal.proofs.RefusalLaws.{then_later}
use Rattle.gridfile.specs.Reading.{head_of, header_end}
use Rattle.gridfile.proofs.HeaderLaws.{mark_number, head_number, rest_number, short_number, long_number, head-number}
use Rattle.gridfile.proofs.read.header.Goals.{In_ok-mark_refusal, In-len4-up}
use Rattle.gridfile.proofs.read.header.Goals as goal

-- the mark is right, so that the refusal is that of what comes after it
after_mark : (c : In_ok-mark_refusal) → head_number c.args.room c.args.file.now ≡ rest_number c.args.room c.args.file.now
after_mark c =
    let a = c.args in
    head-number a.room a.file.now ∙ then_later (mark_number a.file.now 0) (rest_number a.room a.file.now) (sym c.in_ok-mark_refusal.ensures)

-- and all four bytes are there
at-end : (c : In-len4-up) → head_number c.args.room c.args.file.now ≡ (header_end c.args.room (head_of (get_or c.args.file.now 2 0 + 1) (get_or c.args.file.now 3 0 + 1))).code
at-end c =
    after_mark (goal.at.In-len4-up c).In_ok-mark_refusal ∙ long_number c.args.room c.args.file.now c.in-len4-up.len_at_least

pub returns-in_err-mark_refusal-clause-number : goal.returns-in_err-mark_refusal-clause-number
returns-in_err-mark_refusal-clause-number c =
    let p = err_from_is_err_and c.from_residual.result c.from_residual.ensures.1 in rw (p.1, p.2) (err-then c.in_err-mark_refusal.field-0.0 _ (rest_number c.args.room c.args.file.now) c.in_err-mark_refusal.ensures ∙ sym (head-number c.args.room c.args.file.now))

pub returns-in_default-clause-number : goal.returns-in_default-clause-number
returns-in_default-clause-number c =
    let a = c.args in
    sym (after_mark (goal.at.returns-in_default-clause-number c).In_ok-mark_refusal ∙ short_number a.room a.file.now c.in_default.len_below)

pub returns-in_err-end_refusal-clause-number : goal.returns-in_err-end_refusal-clause-number
returns-in_err-end_refusal-clause-number c =
    let p = err_from_is_err_and c.from_residual-in_err-end_refusal.result c.from_residual-in_err-end_refusal.ensures.1 in rw (p.1, p.2) (c.in_err-end_refusal.ensures ∙ sym (at-end (goal.at.returns-in_err-end_refusal-clause-number c).In-len4-up))

pub returns-clause-number : goal.returns-clause-number
returns-clause-number c = c.in_ok-end_refusal.ensures ∙ sym (at-end (goal.at.returns-clause-number c).In-len4-up)
