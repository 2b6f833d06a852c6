-- `inter::runs::run` meets its contract: a run that no number refuses may be taken.
use Rattle.std.proofs.Common.{◌≡◌, ℕ, ◌*◌, ◌<◌, ◌≤◌, sym, ap, ap₂, subst, subst₂, ◌∙◌, rules, arith}
use Rattle.motion.specs.Superblock.{superblocks_along}
use Rattle.grid.specs.Grid.{room}
use Rattle.grid.specs.Previous.{Previous, HeldIf}
use Rattle.grid.specs.Lent.{lent_mut, previous_lent}
use Rattle.refusal.specs.Kinds.{number_of}
use Rattle.refusal.specs.Present.{present_of}
use Rattle.refusal.proofs.KindsLaws.{number-some, err-then, ok-then}
use Rattle.refusal.proofs.PresentLaws.{previous-is}
use Rattle.estimate.specs.Inputs.{plane_at}
use Rattle.estimate.specs.Lent.{planes_lent}
use Rattle.order.specs.List.{most_superblocks, list_refusal}
use Rattle.frame.specs.Run.{frame_run}
use Rattle.inter.specs.Runs.{lengths_of, run_tests, run_refusal}
use Rattle.inter.proofs.ReadyLaws.{RunReady, run-ready, few-superblocks, list_inside}
use Rattle.inter.proofs.OutcomeLaws.{run-refused, list_refused, run-done}
use Rattle.inter.proofs.runs.run.Goals.{After-room-cells, In_ok-run_tests, After-superblocks_along-2, In_ok-list_test}
use Rattle.inter.proofs.runs.run.Goals as goal

-- the tests, by the room of the grid
abbrev tests : After-room-cells → ℕ → ℕ
tests c cells =
    let a = c.args in
    let p = previous_lent a.prev in
    run_tests a.width a.height (lengths_of (planes_lent a.cur.now)) (lengths_of (planes_lent a.reference.now)) (present_of p) (room p.grid) cells

tested : (c : After-room-cells) (code : ℕ) → code ≡ tests c c.room-cells.result → code ≡ tests c (room (lent_mut c.args.grid.now))
tested c code e = e ∙ ap (tests c) c.room-cells.ensures

none : (c : In_ok-run_tests) → tests (goal.at.In_ok-run_tests c).After-room-cells (room (lent_mut c.args.grid.now)) ≡ 0
none c = sym (tested (goal.at.In_ok-run_tests c).After-room-cells 0 c.in_ok-run_tests.ensures)

ready : (c : In_ok-run_tests) → RunReady c.args.width c.args.height (planes_lent c.args.cur.now) (planes_lent c.args.reference.now) (present_of (previous_lent c.args.prev)) (previous_lent c.args.prev).grid (lent_mut c.args.grid.now)
ready c = run-ready _ _ _ _ _ _ _ (none c)

-- the list was tested against the frame's superblocks
listed : (c : After-superblocks_along-2) (code : ℕ) → code ≡ list_refusal c.superblocks_along.result c.superblocks_along-2.result c.args.list.now → code ≡ list_refusal (superblocks_along c.args.width) (superblocks_along c.args.height) c.args.list.now
listed c code e =
    e ∙ ap₂ (λ (across down : ℕ). list_refusal across down c.args.list.now) c.superblocks_along.ensures c.superblocks_along-2.ensures

accepted : (c : In_ok-list_test) → list_refusal (superblocks_along c.args.width) (superblocks_along c.args.height) c.args.list.now ≡ 0
accepted c = sym (listed (goal.at.In_ok-list_test c).After-superblocks_along-2 0 c.in_ok-list_test.ensures)

pub returns-in_err-run_tests-clause-refusal : goal.returns-in_err-run_tests-clause-refusal
unfolding run_refusal
returns-in_err-run_tests-clause-refusal c =
    let a = c.args in
    let r = c.in_err-run_tests.field-0.0 in
    let refused = err-then r _ (list_refusal (superblocks_along a.width) (superblocks_along a.height) a.list.now) (tested (goal.at.returns-in_err-run_tests-clause-refusal c).After-room-cells (number_of r) c.in_err-run_tests.ensures) in
    search rules

pub returns-in_err-run_tests-clause-left : goal.returns-in_err-run_tests-clause-left
returns-in_err-run_tests-clause-left c =
    let r = c.in_err-run_tests.field-0.0 in
    let some = number-some r in
    (run-refused _ _ _ _ _ _ 0 c.args.list.now _ (tested (goal.at.returns-in_err-run_tests-clause-left c).After-room-cells (number_of r) c.in_err-run_tests.ensures) (λ e. omega arith)).1

pub superblocks_along-requires : goal.superblocks_along-requires
superblocks_along-requires c = (ready c).wide.most

pub superblocks_along-requires-2 : goal.superblocks_along-requires-2
superblocks_along-requires-2 c = (ready (goal.at.superblocks_along-requires-2 c).In_ok-run_tests).high.most

pub list_test-requires : goal.list_test-requires
list_test-requires c =
    let ok = ready (goal.at.list_test-requires c).In_ok-run_tests in
    subst₂ (λ (across down : ℕ). (0 < across) × (across * down ≤ most_superblocks)) (sym c.superblocks_along.ensures) (sym c.superblocks_along-2.ensures) (few-superblocks ok.wide ok.high)

pub returns-in_err-list_test-clause-refusal : goal.returns-in_err-list_test-clause-refusal
unfolding run_refusal
returns-in_err-list_test-clause-refusal c =
    let r = c.in_err-list_test.field-0.0 in
    let refused = ok-then _ _ (number_of r) (sym (none (goal.at.returns-in_err-list_test-clause-refusal c).In_ok-run_tests)) (listed (goal.at.returns-in_err-list_test-clause-refusal c).After-superblocks_along-2 (number_of r) c.in_err-list_test.ensures) in
    search rules

pub returns-in_err-list_test-clause-left : goal.returns-in_err-list_test-clause-left
returns-in_err-list_test-clause-left c =
    let r = c.in_err-list_test.field-0.0 in
    let some = number-some r in
    (list_refused _ _ _ _ _ _ 0 _ _ (none (goal.at.returns-in_err-list_test-clause-left c).In_ok-run_tests) (listed (goal.at.returns-in_err-list_test-clause-left c).After-superblocks_along-2 (number_of r) c.in_err-list_test.ensures) (λ e. omega arith)).1

pub frame_run-requires-clause-side : goal.frame_run-requires-clause-side
frame_run-requires-clause-side c = let ok = ready (goal.at.frame_run-requires-clause-side c).In_ok-run_tests in (ok.wide, ok.high)

pub frame_run-requires-clause-cur_held : goal.frame_run-requires-clause-cur_held
unfolding plane_at
frame_run-requires-clause-cur_held c =
    let ok = ready (goal.at.frame_run-requires-clause-cur_held c).In_ok-run_tests in (ok.full.cur, ok.half.cur, ok.quarter.cur)

pub frame_run-requires-clause-reference_held : goal.frame_run-requires-clause-reference_held
unfolding plane_at
frame_run-requires-clause-reference_held c =
    let ok = ready (goal.at.frame_run-requires-clause-reference_held c).In_ok-run_tests in (ok.full.ref, ok.half.ref, ok.quarter.ref)

pub frame_run-requires-clause-held_if : goal.frame_run-requires-clause-held_if
frame_run-requires-clause-held_if c =
    let a = c.args in
    subst (λ (p : Previous). HeldIf a.width a.height p) (previous-is (previous_lent a.prev)) (ready (goal.at.frame_run-requires-clause-held_if c).In_ok-run_tests).grids.before

pub frame_run-requires-clause-held : goal.frame_run-requires-clause-held
frame_run-requires-clause-held c = (ready (goal.at.frame_run-requires-clause-held c).In_ok-run_tests).grids.held

pub frame_run-requires-clause-in_frame : goal.frame_run-requires-clause-in_frame
frame_run-requires-clause-in_frame c =
    let inside = list_inside _ _ _ (accepted (goal.at.frame_run-requires-clause-in_frame c).In_ok-list_test) in search rules

pub returns-clause-refusal : goal.returns-clause-refusal
unfolding run_refusal
returns-clause-refusal c =
    ok-then _ _ 0 (sym (none (goal.at.returns-clause-refusal c).In_ok-run_tests)) (sym (accepted (goal.at.returns-clause-refusal c).In_ok-list_test))

pub returns-clause-left : goal.returns-clause-left
returns-clause-left c =
    let a = c.args in
    let left = λ (p : Previous). frame_run a.width a.height (planes_lent a.cur.now) (planes_lent a.reference.now) 0 p a.list.now (lent_mut a.grid.now) in
    (run-done _ _ _ _ _ _ 0 _ _ (none (goal.at.returns-clause-left c).In_ok-run_tests) (accepted (goal.at.returns-clause-left c).In_ok-list_test)
    (c.frame_run.ensures.run ∙ ap left (sym (previous-is (previous_lent a.prev))))).1
