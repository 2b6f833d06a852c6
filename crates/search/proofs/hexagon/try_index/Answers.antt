-- `search::hexagon::try_index` meets its contract: the point is taken exactly where the record gets cheaper by it.
use mathlib.Core.Path.{◌≡◌, sym, ap, ◌∙◌}
use native.Mathlib.Omega.{arith}
use Rattle.sad.specs.Planes.{rd_in}
use Rattle.points.specs.Patterns.{hexagon_point}
use Rattle.search.specs.declared.result.MotionSearchResult.{MotionSearchResult}
use Rattle.search.specs.Result.{CostOf, try_one}
use Rattle.search.proofs.ResultLaws.{one-taken, one_left}
use Rattle.search.proofs.HexagonLaws.{index_taken, index_left}
use Rattle.search.proofs.hexagon.try_index.Goals.{Start, After-try_mv-best}
use Rattle.search.proofs.hexagon.try_index.Goals as goal

abbrev cost : Start → CostOf
cost c = rd_in c.args.p.now

-- what trying the point leaves, as the definition names it
tried : (c : After-try_mv-best) → c.try_mv-best.result ≡ try_one (cost (goal.at.After-try_mv-best c).Start) c.args.cand.best (hexagon_point c.args.center c.args.i)
tried c =
    c.try_mv-best.ensures ∙ ap (try_one (cost (goal.at.After-try_mv-best c).Start) c.args.cand.best) c.hexagon_point.ensures

pub returns-then-best-before : goal.returns-then-best-before
returns-then-best-before c =
    let a = c.args in
    let same = ap (λ (m : MotionSearchResult). m.rd.cost) (tried (goal.at.returns-then-best-before c).After-try_mv-best) in
    let taken = one-taken (cost (goal.at.returns-then-best-before c).Start) a.cand.best (hexagon_point a.center a.i) (omega (arith, c.if-best-before.true)) in
    sym (index_taken (cost (goal.at.returns-then-best-before c).Start) a.center a.cand a.i taken.1 ∙ λ k. record { idx = a.i; best = sym (tried (goal.at.returns-then-best-before c).After-try_mv-best ∙ taken.0) k })

pub returns-else-best-before : goal.returns-else-best-before
returns-else-best-before c =
    let a = c.args in
    let same = ap (λ (m : MotionSearchResult). m.rd.cost) (tried (goal.at.returns-else-best-before c).After-try_mv-best) in
    sym (index_left (cost (goal.at.returns-else-best-before c).Start) a.center a.cand a.i (one_left (cost (goal.at.returns-else-best-before c).Start) a.cand.best (hexagon_point a.center a.i) (omega (arith, c.if-best-before.false))))
