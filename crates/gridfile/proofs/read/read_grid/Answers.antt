-- `gridfile::read::read_grid` meets its contract: a number is found before any cell is written. Assumes nothing.
use Rattle.std.proofs.Common.{◌≡◌, ℕ, drop, sym, ap, ap₂, ◌∙◌}
use Rattle.std.proofs.lemmas.Result.{err_from_is_err_and}
use Rattle.refusal.specs.Kinds.{number_of}
use Rattle.grid.specs.Grid.{room}
use Rattle.grid.specs.Lent.{lent_mut}
use Rattle.records.specs.Forms.{header_bytes}
use Rattle.gridfile.specs.Reading.{State, head_of, between, taken, kept, ended, read_refusal, shape_of}
use Rattle.gridfile.proofs.HeaderLaws.{head_number}
use Rattle.gridfile.proofs.AnswerLaws.{refused-answer, refused-grid, header-number, header-fits, at_cells, cells-number, done_answer, done_grid}
use Rattle.gridfile.proofs.RefusedLaws.{numbered}
use Rattle.gridfile.proofs.read.read_grid.Goals.{In_err-said, In_ok-said, In_err-cells_refusal, In_ok-cells_refusal}
use Rattle.gridfile.proofs.read.read_grid.Goals as goal

-- a header that is refused
header_refused : (c : In_err-said) → read_refusal c.args.file.now (lent_mut c.args.grid.now) ≡ number_of c.in_err-said.field-0.0
header_refused c =
    let is = c.in_err-said.ensures.number ∙ ap (λ (n : ℕ). head_number n c.args.file.now) c.room.ensures in
    header-number c.args.file.now (lent_mut c.args.grid.now) (λ e. numbered c.in_err-said.field-0.0 (is ∙ e)) ∙ sym is

-- one that nothing is wrong with, and where reading stands behind it
fine : (c : In_ok-said) → head_number (room (lent_mut c.args.grid.now)) c.args.file.now ≡ 0
fine c = ap (λ (n : ℕ). head_number n c.args.file.now) (sym c.room.ensures) ∙ sym c.in_ok-said.ensures.number

here : (c : In_ok-said) → between (head_of c.in_ok-said.said.columns c.in_ok-said.said.rows) 0 ≡ at_cells c.args.file.now (lent_mut c.args.grid.now) (fine c)
here c =
    ap₂ (λ (columns rows : ℕ). between (head_of columns rows) 0) c.in_ok-said.ensures.said.1 c.in_ok-said.ensures.said.2

number : (c : In_ok-said) → ended (taken 0 (between (head_of c.in_ok-said.said.columns c.in_ok-said.said.rows) 0) (drop header_bytes c.args.file.now)) ≡ read_refusal c.args.file.now (lent_mut c.args.grid.now)
number c =
    ap (λ (s : State). ended (taken 0 s (drop header_bytes c.args.file.now))) (here c) ∙ sym (cells-number c.args.file.now (lent_mut c.args.grid.now) (fine c))

cells_refused : (c : In_err-cells_refusal) → read_refusal c.args.file.now (lent_mut c.args.grid.now) ≡ number_of c.in_err-cells_refusal.field-0.0
cells_refused c = sym (c.in_err-cells_refusal.ensures ∙ number (goal.at.In_err-cells_refusal c).In_ok-said)

none : (c : In_ok-cells_refusal) → ended (taken 0 (at_cells c.args.file.now (lent_mut c.args.grid.now) (fine (goal.at.In_ok-cells_refusal c).In_ok-said)) (drop header_bytes c.args.file.now)) ≡ 0
none c =
    let at = (goal.at.In_ok-cells_refusal c).In_ok-said in
    ap (λ (s : State). ended (taken 0 s (drop header_bytes c.args.file.now))) (sym (here at)) ∙ sym c.in_ok-cells_refusal.ensures

pub returns-in_err-said-clause-answer : goal.returns-in_err-said-clause-answer
returns-in_err-said-clause-answer c =
    let p = err_from_is_err_and c.from_residual.result c.from_residual.ensures.1 in rw (p.1, p.2) (sym (refused-answer c.args.file.now (lent_mut c.args.grid.now) _ (header_refused (goal.at.returns-in_err-said-clause-answer c).In_err-said) (numbered c.in_err-said.field-0.0)))

pub returns-in_err-said-clause-kept : goal.returns-in_err-said-clause-kept
returns-in_err-said-clause-kept c =
    sym (refused-grid c.args.file.now (lent_mut c.args.grid.now) _ (header_refused (goal.at.returns-in_err-said-clause-kept c).In_err-said) (numbered c.in_err-said.field-0.0))

pub returns-in_err-cells_refusal-clause-answer : goal.returns-in_err-cells_refusal-clause-answer
returns-in_err-cells_refusal-clause-answer c =
    let p = err_from_is_err_and c.from_residual-in_err-cells_refusal.result c.from_residual-in_err-cells_refusal.ensures.1 in rw (p.1, p.2) (sym (refused-answer c.args.file.now (lent_mut c.args.grid.now) _ (cells_refused (goal.at.returns-in_err-cells_refusal-clause-answer c).In_err-cells_refusal) (numbered c.in_err-cells_refusal.field-0.0)))

pub returns-in_err-cells_refusal-clause-kept : goal.returns-in_err-cells_refusal-clause-kept
returns-in_err-cells_refusal-clause-kept c =
    sym (refused-grid c.args.file.now (lent_mut c.args.grid.now) _ (cells_refused (goal.at.returns-in_err-cells_refusal-clause-kept c).In_err-cells_refusal) (numbered c.in_err-cells_refusal.field-0.0))

pub get_cells-requires-clause-room : goal.get_cells-requires-clause-room
get_cells-requires-clause-room c =
    let fits = header-fits c.args.file.now (room (lent_mut c.args.grid.now)) (fine (goal.at.get_cells-requires-clause-room c).In_ok-said) in
    rw (c.in_ok-said.ensures.said.1, c.in_ok-said.ensures.said.2) fits

pub returns-clause-answer : goal.returns-clause-answer
unfolding shape_of
returns-clause-answer c =
    let file = c.args.file.now in
    let g = lent_mut c.args.grid.now in
    let said = c.in_ok-said.ensures.said in
    let at = goal.at.returns-clause-answer c in
    sym (done_answer file g (fine at.In_ok-said) (none at.In_ok-cells_refusal) ∙ ap₂ (shape_of 0) (sym said.1) (sym said.2))

pub returns-clause-kept : goal.returns-clause-kept
returns-clause-kept c =
    let file = c.args.file.now in
    let g = lent_mut c.args.grid.now in
    let at = goal.at.returns-clause-kept c in
    c.get_cells.ensures.kept ∙ ap (λ (s : State). kept 0 s (drop header_bytes file) g) (here at.In_ok-said)
    ∙ sym (done_grid file g (fine at.In_ok-said) (none at.In_ok-cells_refusal))
