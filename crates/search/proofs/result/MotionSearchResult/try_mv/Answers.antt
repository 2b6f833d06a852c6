-- `search::result::MotionSearchResult::try_mv` meets its contract: out of range the record stays, and so it does where the sum
-- reaches the limit.
use native.Mathlib.Nat.{mul-le-mul_right}
use Rattle.motion.proofs.RateLaws.{rate_v-le}
use mathlib.Core.Path.{◌≡◌, sym, ap, ◌∙◌}
use mathlib.Core.Bool.{true, false}
use mathlib.Core.Logic.{⊎_elim}
use Prim.Native.Nat.{ℕ, ◌+◌, ◌*◌, ◌≤◌, min}
use native.Mathlib.Omega.{arith}
use borrow.Author.Tests.{ltb-true, ltb-false}
use lib.Dec.{ltb}
use Rattle.ground.proofs.TestLaws.{tested}
use Rattle.motion.specs.Range.{in_range}
use Rattle.sad.specs.declared.rd.MVCandidateRD.{MVCandidateRD}
use Rattle.sad.specs.Cost.{rd_of, sad_at}
use Rattle.sad.specs.Planes.{rd_in}
use Rattle.sad.proofs.CostLaws.{rd_in as in_cost, rd_out, limit_lost, sad-from}
use Rattle.search.specs.declared.result.MotionSearchResult.{MotionSearchResult}
use Rattle.search.specs.Result.{cheaper, try_one}
use Rattle.search.proofs.ResultLaws.{one-most, one-lost, not-cheaper}
use Rattle.search.proofs.result.MotionSearchResult.try_mv.Goals.{Start, Else-not-holds, After-rate_part-rate, After-sad_limit-limit, After-get_sad_below-sad}
use Rattle.search.proofs.result.MotionSearchResult.try_mv.Goals as goal

module _ (c : Else-not-holds) where
  in_range_lem : in_range c.args.p.now.block.range c.args.cand_mv ≡ true
  in_range_lem = cc

  abbrev sum : ℕ
  sum =
      sad_at c.args.p.now.block c.args.p.now.cur.now c.args.p.now.reference.now c.args.cand_mv

-- and its cost
costs : (c : After-rate_part-rate) → let a = c.args in rd_in a.p.now a.cand_mv ≡ record { cost = 256 * sum (goal.at.After-rate_part-rate c).Else-not-holds + c.rate_part-rate.result; sad = sum (goal.at.After-rate_part-rate c).Else-not-holds }
unfolding rd_of
costs c =
    let a = c.args in
    in_cost a.p.now.block a.p.now.cur.now a.p.now.reference.now a.cand_mv (in_range_lem (goal.at.After-rate_part-rate c).Else-not-holds)
    ∙ λ i. record { cost = 256 * sum (goal.at.After-rate_part-rate c).Else-not-holds + sym c.rate_part-rate.ensures i; sad = sum (goal.at.After-rate_part-rate c).Else-not-holds }

-- where the sum reaches the limit the record stays
lost : (c : After-sad_limit-limit) → let a = c.args in c.sad_limit-limit.result ≤ sum (goal.at.After-sad_limit-limit c).Else-not-holds → a.self ≡ try_one (rd_in a.p.now) a.self a.cand_mv
lost c reached =
    let a = c.args in
    let cost = a.self.rd.cost in
    let reaches = limit_lost cost c.rate_part-rate.result (sum (goal.at.After-sad_limit-limit c).Else-not-holds) (omega (arith, c.sad_limit-limit.ensures, reached)) in
    sym (one-lost (rd_in a.p.now) a.self a.cand_mv (omega (arith, reaches, ap (λ (r : MVCandidateRD). r.cost) (costs (goal.at.After-sad_limit-limit c).After-rate_part-rate))))

-- what is given back: the sum, or the limit
given : (c : After-get_sad_below-sad) → c.get_sad_below-sad.result ≡ min c.sad_limit-limit.result (sum (goal.at.After-get_sad_below-sad c).Else-not-holds)
given c =
    let a = c.args in
    c.get_sad_below-sad.ensures
    ∙ ap (min c.sad_limit-limit.result) (sad-from a.p.now.block a.cand_mv (in_range_lem (goal.at.After-get_sad_below-sad c).Else-not-holds) _ _ c.org_start-src.ensures c.ref_start-dst.ensures a.p.now.cur.now a.p.now.reference.now)

pub returns-then-not-holds : goal.returns-then-not-holds
returns-then-not-holds c =
    let a = c.args in
    let out : in_range a.p.now.block.range a.cand_mv ≡ false = cc in
    sym (one-most (rd_in a.p.now) a.self a.cand_mv (rd_out a.p.now.block a.p.now.cur.now a.p.now.reference.now a.cand_mv out) (omega arith))

pub returns-then-limit-eq0 : goal.returns-then-limit-eq0
returns-then-limit-eq0 c = lost (goal.at.returns-then-limit-eq0 c).After-sad_limit-limit (omega (arith, c.if-limit-eq0.true))

pub returns : goal.returns
unfolding try_one
returns c =
    let a = c.args in
    let rd = rd_in a.p.now in
    let limit = c.sad_limit-limit.result in
    let all = sum (goal.at.returns c).Else-not-holds in
    let with : ℕ → MotionSearchResult = λ s. record { mv = a.cand_mv; rd = record { cost = 256 * s + c.rate_part-rate.result; sad = s } } in
    ⊎_elim
    (λ below.
    let whole : c.get_sad_below-sad.result ≡ all = omega (arith, given (goal.at.returns c).After-get_sad_below-sad, ltb-true all limit below) in
    c.move_to.ensures ∙ ap (λ (s : ℕ). cheaper a.self (with s)) whole
    ∙ sym (ap (λ (r : MVCandidateRD). cheaper a.self (record { mv = a.cand_mv; rd = r })) (costs (goal.at.returns c).After-rate_part-rate)))
    (λ reached.
    let few-limit : limit ≤ all = ltb-false all limit reached in
    let cut : c.get_sad_below-sad.result ≡ limit = omega (arith, given (goal.at.returns c).After-get_sad_below-sad) in
    let dear = limit_lost a.self.rd.cost c.rate_part-rate.result limit (omega (arith, c.sad_limit-limit.ensures)) in
    c.move_to.ensures ∙ not-cheaper a.self (with c.get_sad_below-sad.result) (omega (arith, cut, dear)) ∙ lost (goal.at.returns c).After-sad_limit-limit few-limit)
    (tested (ltb all limit))

pub overflow_add-rd : goal.overflow_add-rd
overflow_add-rd c =
    let a = c.args in
    omega (arith, c.rate_part-rate.ensures, mul-le-mul_right a.p.now.block.weight (rate_v-le a.cand_mv))
