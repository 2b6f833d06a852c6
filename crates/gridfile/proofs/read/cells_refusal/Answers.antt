-- `gridfile::read::cells_refusal` meets its contract: whole records by their marks, then how the file ends. Assumes nothing.
use Rattle.std.proofs.Common.{◌≡◌, ℕ, ◌+◌, ◌-◌, ◌*◌, ◌/◌, ◌≤◌, true, List, length, take, drop, sym, ap, ◌∙◌, arith}
use Rattle.std.proofs.lemmas.Result.{err_from_is_err_and}
use Rattle.ground.specs.Every.{all_below}
use Rattle.refusal.specs.Refusals.{◌then◌}
use Rattle.refusal.proofs.KindsLaws.{err-then}
use Rattle.refusal.proofs.RefusalLaws.{then_later}
use Rattle.records.specs.Forms.{plain_forms, header_bytes}
use Rattle.records.specs.Records.{file_bytes}
use Rattle.gridfile.specs.Reading.{head_of, between, taken, ended}
use Rattle.gridfile.proofs.HeaderLaws.{mark_number}
use Rattle.gridfile.proofs.PlaceLaws.{cell_marked, from_place, marks_behind, marks-stop, cut_short, too_long, just_long}
use Rattle.gridfile.proofs.read.cells_refusal.Goals.{After-mark_refusal, Else-there-count}
use Rattle.gridfile.proofs.read.cells_refusal.Goals as goal

-- as many records are there as the header says
all_whole : (c : Else-there-count) → file_bytes plain_forms (c.args.said.columns * c.args.said.rows) ≤ length c.args.file.now
unfolding file_bytes
all_whole c = omega (arith, c.requires, c.min.ensures, c.cells-count.ensures, c.if-there-count.false)

all_marked : (c : Else-there-count) → all_below (c.args.said.columns * c.args.said.rows) (cell_marked c.args.file.now) ≡ true
all_marked c =
    let all : c.args.said.columns * c.args.said.rows ≡ c.min.result = omega (arith, c.min.ensures, c.cells-count.ensures, c.if-there-count.false) in
    ap (λ (n : ℕ). all_below n (cell_marked c.args.file.now)) all ∙ sym (marks_behind c.args.file.now c.min.result) ∙ sym c.if-not-marks_hold.ensures

-- fewer are: the bytes behind them are a record begun
ends : (c : After-mark_refusal) → mark_number (take (length c.args.file.now - (4 + 10 * ((length c.args.file.now - 4) / 10))) (drop (4 + 10 * ((length c.args.file.now - 4) / 10)) c.args.file.now)) 0 then 11 ≡ ended (taken 0 (between (head_of c.args.said.columns c.args.said.rows) 0) (drop header_bytes c.args.file.now))
unfolding file_bytes
ends c =
    let file = c.args.file.now in
    let said = c.args.said in
    let at : ℕ = 4 + 10 * ((length file - 4) / 10) in
    let k = c.min.result in
    let place : at ≡ file_bytes plain_forms k = omega (arith, c.min.ensures, c.cells-count.ensures, c.if-there-count.true) in
    ap (λ (l : List ℕ). mark_number l 0 then 11) (from_place file at ∙ ap (λ (n : ℕ). drop n file) place)
    ∙ sym (cut_short file 0 said.columns said.rows said.wide.0 k (omega (arith, c.min.ensures, c.cells-count.ensures, c.if-there-count.true)) (omega (arith, c.requires, c.min.ensures)) (omega (arith, c.requires, c.min.ensures, c.cells-count.ensures, c.if-there-count.true)) (sym (marks_behind file k) ∙ sym c.if-not-marks_hold.ensures))

pub returns-then-not-marks_hold : goal.returns-then-not-marks_hold
unfolding file_bytes
returns-then-not-marks_hold c =
    let file = c.args.file.now in
    let said = c.args.said in
    let k = c.min.result in
    sym (marks-stop file 0 said.columns said.rows said.wide.0 k (omega (arith, c.requires, c.min.ensures)) (omega (arith, c.min.ensures, c.cells-count.ensures)) (sym (marks_behind file k) ∙ sym c.if-not-marks_hold.ensures))

pub returns-in_err-mark_refusal : goal.returns-in_err-mark_refusal
returns-in_err-mark_refusal c =
    let p = err_from_is_err_and c.from_residual.result c.from_residual.ensures.1 in rw (p.1, p.2) (err-then c.in_err-mark_refusal.field-0.0 _ 11 c.in_err-mark_refusal.ensures ∙ ends (goal.at.returns-in_err-mark_refusal c).After-mark_refusal)

pub returns-then-there-count : goal.returns-then-there-count
returns-then-there-count c =
    sym (then_later _ 11 (sym c.in_ok-mark_refusal.ensures)) ∙ ends (goal.at.returns-then-there-count c).After-mark_refusal

pub returns-then-file-file_bytes : goal.returns-then-file-file_bytes
unfolding file_bytes
returns-then-file-file_bytes c =
    let said = c.args.said in
    let at = (goal.at.returns-then-file-file_bytes c).Else-there-count in
    sym (too_long c.args.file.now 0 said.columns said.rows said.wide.0 (all_whole at) (all_marked at) (λ e. c.if-file-file_bytes.true (e ∙ sym c.file_bytes.ensures)))

pub returns : goal.returns
unfolding file_bytes
returns c =
    let said = c.args.said in
    let at = (goal.at.returns c).Else-there-count in
    sym (just_long c.args.file.now 0 said.columns said.rows said.wide.0 (all_whole at) (all_marked at) (c.if-file-file_bytes.false ∙ c.file_bytes.ensures))
