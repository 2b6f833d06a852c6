-- Laws of the best-so-far record: one candidate more, and what every record that a search hands back keeps. Assumes nothing.
use mathlib.Core.Path.{◌≡◌, refl, ap}
use mathlib.Core.Bool.{Bool, true, false, cond}
use Prim.Native.Nat.{ℕ, zero, suc, ◌+◌, ◌-◌, ◌^◌, ◌≤◌, ◌<◌}
use native.Mathlib.Numerals.{add-one}
use native.Mathlib.Omega.{arith}
use borrow.Author.Tests.{ltb-true, ltb-false, le-ltb}
use lib.Dec.{ltb}
use Rattle.motion.specs.declared.vector.MotionVector.{MotionVector}
use Rattle.sad.specs.declared.rd.MVCandidateRD.{MVCandidateRD}
use Rattle.sad.specs.Cost.{empty_rd}
use Rattle.points.specs.declared.patterns.Pattern.{Pattern}
use Rattle.points.specs.Patterns.{points, point_of}
use Rattle.search.specs.declared.result.MotionSearchResult.{MotionSearchResult}
use Rattle.search.specs.Result.{CostOf, empty_result, measured, cheaper, try_one, try_each, try_pattern}

-- a loop that has tried i candidates tries one more
pub each_none : (rd : CostOf) (best : MotionSearchResult) (vs : ℕ → MotionVector) → try_each rd best 0 vs ≡ best
unfolding try_each
each_none rd best vs = refl

pub each_more : (rd : CostOf) (best : MotionSearchResult) (i : ℕ) (vs : ℕ → MotionVector) → try_each rd best (i + 1) vs ≡ try_one rd (try_each rd best i vs) (vs i)
unfolding try_each
each_more rd best i vs = ap (λ (n : ℕ). try_each rd best n vs) (add-one i)

pub each_four : (rd : CostOf) (best : MotionSearchResult) (vs : ℕ → MotionVector) → try_each rd best 4 vs ≡ try_one rd (try_one rd (try_one rd (try_one rd best (vs 0)) (vs 1)) (vs 2)) (vs 3)
unfolding try_each
each_four rd best vs = refl

-- the largest cost, which no vector in range has
abbrev pub most_cost : ℕ
most_cost = 2 ^ 64 - 1

-- a record that is no cheaper changes nothing
pub not-cheaper : (best other : MotionSearchResult) → best.rd.cost ≤ other.rd.cost → cheaper best other ≡ best
unfolding cheaper
not-cheaper best other h = rw (le-ltb other.rd.cost best.rd.cost h)

-- a candidate is taken exactly where the record gets cheaper by it
module _ (rd : CostOf) (best : MotionSearchResult) (v : MotionVector) where
  pub one-lost : best.rd.cost ≤ (rd v).cost → try_one rd best v ≡ best
  unfolding try_one
  one-lost h = not-cheaper best (measured rd v) h

  taken-by : (t : Bool) → ltb (rd v).cost best.rd.cost ≡ t → (cond t (measured rd v) best).rd.cost < best.rd.cost → (cond t (measured rd v) best ≡ measured rd v) × ((rd v).cost < best.rd.cost)
  taken-by true e h = (refl, h)
  taken-by false e h = absurd (omega arith)

  pub one-taken : (try_one rd best v).rd.cost < best.rd.cost → (try_one rd best v ≡ measured rd v) × ((rd v).cost < best.rd.cost)
  unfolding try_one cheaper
  one-taken h = taken-by (ltb (rd v).cost best.rd.cost) refl h

  left_by : (t : Bool) → ltb (rd v).cost best.rd.cost ≡ t → best.rd.cost ≤ (cond t (measured rd v) best).rd.cost → best.rd.cost ≤ (rd v).cost
  left_by true e h = h
  left_by false e h = ltb-false (rd v).cost best.rd.cost e

  pub one_left : best.rd.cost ≤ (try_one rd best v).rd.cost → best.rd.cost ≤ (rd v).cost
  unfolding try_one cheaper
  one_left h = left_by (ltb (rd v).cost best.rd.cost) refl h

-- a candidate that costs the most changes nothing
pub one-most : (rd : CostOf) (best : MotionSearchResult) (v : MotionVector) → rd v ≡ empty_rd → best.rd.cost ≤ most_cost → try_one rd best v ≡ best
unfolding empty_rd
one-most rd best v e h = one-lost rd best v (omega (arith, ap (λ (r : MVCandidateRD). r.cost) e))

-- What holds of the record of every vector that costs less than the most, holds of every record that is cheaper than a record
-- of cost at most the most.
module _ (rd : CostOf) (Q : MotionSearchResult → Type 0) (ok : (v : MotionVector) → (rd v).cost < most_cost → Q (record { mv = v; rd = rd v })) where
  -- a record that is no vector's yet may stay so while it costs the most
  pub record Sound (best : MotionSearchResult) : Type 0 where
    pub most : best.rd.cost ≤ most_cost
    pub holds : best.rd.cost < most_cost → Q best

  pub sound_empty : Sound empty_result
  unfolding empty_result empty_rd
  sound_empty = record { most = omega arith; holds = λ h. absurd (omega arith) }

  sound_by : (best other : MotionSearchResult) (t : Bool) → ltb other.rd.cost best.rd.cost ≡ t → Sound best → (other.rd.cost < most_cost → Q other) → Sound (cond t other best)
  sound_by best other true e s q =
      let less = ltb-true other.rd.cost best.rd.cost e in
      record { most = omega (arith, s.most); holds = q }
  sound_by best other false e s q = s

  pub sound_cheaper : (best other : MotionSearchResult) → Sound best → (other.rd.cost < most_cost → Q other) → Sound (cheaper best other)
  unfolding cheaper
  sound_cheaper best other s q = sound_by best other (ltb other.rd.cost best.rd.cost) refl s q

  pub sound_one : (best : MotionSearchResult) (v : MotionVector) → Sound best → Sound (try_one rd best v)
  unfolding try_one
  sound_one best v s = sound_cheaper best (record { mv = v; rd = rd v }) s (ok v)

  pub sound_each : (best : MotionSearchResult) (n : ℕ) (vs : ℕ → MotionVector) → Sound best → Sound (try_each rd best n vs)
  unfolding try_each
  sound_each best zero vs s = s
  sound_each best (suc n) vs s = sound_one (try_each rd best n vs) (vs n) (sound_each best n vs s)

  pub sound_pattern : (best : MotionSearchResult) (p : Pattern) (centre : MotionVector) → Sound best → Sound (try_pattern rd best p centre)
  unfolding try_pattern
  sound_pattern best p centre s = sound_each best (points p) (point_of p centre) s

  -- a record that is a vector's already stays one
  pub record Kept (best : MotionSearchResult) : Type 0 where
    pub most : best.rd.cost ≤ most_cost
    pub holds : Q best

  kept_by : (best other : MotionSearchResult) (t : Bool) → ltb other.rd.cost best.rd.cost ≡ t → Kept best → (other.rd.cost < most_cost → Q other) → Kept (cond t other best)
  kept_by best other true e k q =
      let less = ltb-true other.rd.cost best.rd.cost e in
      record { most = omega (arith, k.most); holds = q (omega (arith, k.most)) }
  kept_by best other false e k q = k

  pub kept-cheaper : (best other : MotionSearchResult) → Kept best → (other.rd.cost < most_cost → Q other) → Kept (cheaper best other)
  unfolding cheaper
  kept-cheaper best other k q = kept_by best other (ltb other.rd.cost best.rd.cost) refl k q

  pub kept-each : (best : MotionSearchResult) (n : ℕ) (vs : ℕ → MotionVector) → Kept best → Kept (try_each rd best n vs)
  unfolding try_each try_one
  kept-each best zero vs k = k
  kept-each best (suc n) vs k =
      kept-cheaper (try_each rd best n vs) (record { mv = vs n; rd = rd (vs n) }) (kept-each best n vs k) (ok (vs n))

  pub kept-pattern : (best : MotionSearchResult) (p : Pattern) (centre : MotionVector) → Kept best → Kept (try_pattern rd best p centre)
  unfolding try_pattern
  kept-pattern best p centre k = kept-each best (points p) (point_of p centre) k
