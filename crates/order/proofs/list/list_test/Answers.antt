-- `order::list::list_test` meets its contract: after i turns the table holds what i members name. Assumes nothing.
use Rattle.std.proofs.Common.{◌≡◌, ℕ, ◌+◌, ◌*◌, ◌<◌, true, false, cond, length, get_or, set, sym, ap, subst, ◌∙◌, arith, ltb-true}
use Rattle.order.specs.List.{all_earlier}
use Rattle.refusal.specs.Kinds.{code_of}
use Rattle.order.proofs.PassLaws.{Pass, pass_none, pass_more, pass_ends, wrong_length, outside, twice}
use Rattle.order.proofs.list.list_test.Goals.{Joined-not-neighbours_seen, then-not-neighbours_seen, else-not-neighbours_seen, then-count-n-via-then-count-n, then-count-n-via-else-count-n+then-seen-n}
use Rattle.order.proofs.list.list_test.Goals as goal

-- a neighbour that was not seen makes the answer 7
answered : (c : Joined-not-neighbours_seen) → code_of c.if-not-neighbours_seen.answer ≡ cond c.neighbours_seen.result (code_of c.loop-n.answer) 7
answered c =
    elim c.if-not-neighbours_seen.branch [
      | then-not-neighbours_seen w ↦ rw (w.answer-is, w.if-not-neighbours_seen.true)
      | else-not-neighbours_seen w ↦ rw (w.answer-is, w.if-not-neighbours_seen.false)
    ]

pub returns-then-list-count : goal.returns-then-list-count
returns-then-list-count c = wrong_length c.args.across c.args.down c.args.list.now c.if-list-count.true

pub loop-n-init : goal.loop-n-init
loop-n-init c = pass_none c.args.across (c.args.across * c.args.down) c.args.list.now

pub returns-then-count-n : goal.returns-then-count-n
returns-then-count-n c =
    let a = c.args in
    let i = c.loop-n.n-index in
    let member = c.from-n.ensures in
    elim c.then-count-n.branch [
      | then-count-n-via-then-count-n w ↦ outside a.across a.down a.list.now i c.loop-n-test.true (omega (arith, w.if-count-n.true))
      | then-count-n-via-else-count-n+then-seen-n w ↦
          let inside : get_or a.list.now i 0 < a.across * a.down = omega (arith, w.if-count-n.false) in
          let held = c.loop-n.invariant.held (get_or a.list.now i 0) (omega (arith, c.requires)) in
          let seen = ap (λ (n : ℕ). get_or c.loop-n.seen n false) (sym member) ∙ w.if-seen-n.true in
          twice a.across a.down a.list.now i c.loop-n-test.true inside (λ e. omega (arith, ltb-true 0 _ (sym held ∙ seen)))
    ]

pub loop-n-preserved : goal.loop-n-preserved
loop-n-preserved c =
    let a = c.args in
    let at = c.loop-n in
    let member = c.from-n.ensures in
    let next = λ (n : ℕ). Pass a.across (a.across * a.down) a.list.now (at.n-index + 1) (set at.seen n true) (code_of c.if-not-neighbours_seen.answer) in
    let new = ap (λ (n : ℕ). get_or at.seen n false) (sym member) ∙ c.if-seen-n.false in
    let said = c.neighbours_seen.ensures ∙ ap (λ (n : ℕ). all_earlier a.across n (λ k. get_or at.seen k false)) member in
    subst next (sym member) (pass_more a.across (a.across * a.down) a.list.now at.n-index at.seen (code_of at.answer) at.invariant c.loop-n-test.true c.requires.1
    (omega (arith, c.if-count-n.false)) new c.neighbours_seen.result (code_of c.if-not-neighbours_seen.answer) said (answered c))

pub returns : goal.returns
returns c =
    let a = c.args in
    let at = c.loop-n in
    let done : at.n-index ≡ length a.list.now = omega arith in
    pass_ends a.across a.down a.list.now at.seen (code_of at.answer) c.if-list-count.false
    (subst (λ (n : ℕ). Pass a.across (a.across * a.down) a.list.now n at.seen (code_of at.answer)) done at.invariant)
