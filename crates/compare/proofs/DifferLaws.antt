-- Laws of the places that differ, as a loop comes to them: none is left, this one differs, or the next is looked at.
-- Assumes nothing.
use Rattle.std.specs.Prelude.{Some, None, count_by, filter, unwrap_or}
use Rattle.std.specs.List.{range_with_len, find}
use Rattle.std.proofs.lemmas.List.Sums.{length-filter}
use mathlib.Core.Path.{◌≡◌, refl, sym, ap, ◌∙◌}
use mathlib.Core.Logic.{◌⊎◌, inl, inr, ⊎_elim}
use mathlib.Core.Bool.{Bool, true, false, cond}
use mathlib.Core.List.{List, [], ◌∷◌}
use Prim.Native.Nat.{ℕ, zero, suc, ◌+◌, ◌-◌, ◌≤◌, ◌<◌}
use native.Mathlib.Numerals.{add-one}
use native.Mathlib.Omega.{arith}
use lib.ListN.{length, get_or}
use Rattle.ground.proofs.TestLaws.{tested}
use Rattle.grid.specs.Grid.{Grid}
use Rattle.compare.specs.Differ.{differs_at, places_from, differing}

-- they are the places of the range that pass the test, as its chains count and find them
filtered : (test : ℕ → Bool) (i n : ℕ) → places_from test i n ≡ filter test (range_with_len i n)
unfolding places_from
filtered test i zero = refl
filtered test i (suc n) = rw (filtered test (suc i) n, add-one)

found_first : (test : ℕ → Bool) (xs : List ℕ) (d : ℕ) → unwrap_or (find test xs) d ≡ get_or (filter test xs) 0 d
found_first test [] d = refl
found_first test (x ∷ xs) d =
    elim (test x) as (λ t. unwrap_or (cond t (Some x) (find test xs)) d ≡ get_or (cond t (x ∷ filter test xs) (filter test xs)) 0 d) [
      | true ↦ refl
      | false ↦ found_first test xs d
    ]

module _ (test : ℕ → Bool) (i to : ℕ) where
  find_more : i < to → find test (range_with_len i (to - i)) ≡ cond (test i) (Some i) (find test (range_with_len (i + 1) (to - (i + 1))))
  find_more h =
      let places : to - i ≡ suc (to - (i + 1)) = omega arith in
      rw (places, add-one)

  pub find_none : to ≤ i → find test (range_with_len i (to - i)) ≡ None
  find_none h =
      let no-places : to - i ≡ 0 = omega arith in
      ap (λ (n : ℕ). find test (range_with_len i n)) no-places

  pub find_here : i < to → test i ≡ true → find test (range_with_len i (to - i)) ≡ Some i
  find_here h e = find_more h ∙ ap (λ (t : Bool). cond t (Some i) (find test (range_with_len (i + 1) (to - (i + 1))))) e

  pub find_past : i < to → test i ≡ false → find test (range_with_len i (to - i)) ≡ find test (range_with_len (i + 1) (to - (i + 1)))
  find_past h e = find_more h ∙ ap (λ (t : Bool). cond t (Some i) (find test (range_with_len (i + 1) (to - (i + 1))))) e

module _ (f g : Grid) (from to : ℕ) where
  pub count_differs : count_by (differs_at f g) (range_with_len from (to - from)) ≡ length (differing f g from to)
  unfolding differing
  count_differs = rw (filtered (differs_at f g) from (to - from), length-filter)

  pub find_differs : unwrap_or (find (differs_at f g) (range_with_len from (to - from))) to ≡ get_or (differing f g from to) 0 to
  unfolding differing
  find_differs = rw (filtered (differs_at f g) from (to - from)) (found_first (differs_at f g) (range_with_len from (to - from)) to)

module _ (f g : Grid) (i to : ℕ) where
  pub none_left : to ≤ i → differing f g i to ≡ []
  unfolding differing places_from
  none_left h =
      let no-places : to - i ≡ 0 = omega arith in
      ap (places_from (differs_at f g) i) no-places

  one_more : i < to → differing f g i to ≡ cond (differs_at f g i) (i ∷ differing f g (i + 1) to) (differing f g (i + 1) to)
  unfolding differing places_from
  one_more h =
      let places : to - i ≡ suc (to - (i + 1)) = omega arith in
      rw (places, add-one)

  pub differs_here : i < to → differs_at f g i ≡ true → differing f g i to ≡ i ∷ differing f g (i + 1) to
  differs_here h e = one_more h ∙ ap (λ (t : Bool). cond t (i ∷ differing f g (i + 1) to) (differing f g (i + 1) to)) e

  pub same_here : i < to → differs_at f g i ≡ false → differing f g i to ≡ differing f g (i + 1) to
  same_here h e = one_more h ∙ ap (λ (t : Bool). cond t (i ∷ differing f g (i + 1) to) (differing f g (i + 1) to)) e

-- the first place that differs: none before it does
pub record First (f g : Grid) (from to place : ℕ) : Type 0 where
  pub before : differing f g from to ≡ differing f g place to
  pub here : differing f g place to ≡ place ∷ differing f g (place + 1) to

module _ (f g : Grid) (to : ℕ) where
  first_by : (n i : ℕ) → to - i ≡ n → (differing f g i to ≡ []) ⊎ ((place : ℕ) × First f g i to place)
  first_by zero i e = inl (none_left f g i to (omega arith))
  first_by (suc n) i e =
      ⊎_elim (λ d. inr (i, record { before = refl; here = differs_here f g i to (omega arith) d }))
      (λ s.
      let past = same_here f g i to (omega arith) s in
      ⊎_elim (λ none. inl (past ∙ none)) (λ w. inr (w.0, record { before = past ∙ w.1.before; here = w.1.here }))
      (first_by n (i + 1) (omega arith)))
      (tested (differs_at f g i))

  pub first_of : (from : ℕ) → (differing f g from to ≡ []) ⊎ ((place : ℕ) × First f g from to place)
  first_of from = first_by (to - from) from refl

  pub first-place : (from place : ℕ) → First f g from to place → get_or (differing f g from to) 0 to ≡ place
  first-place from place w = ap (λ (places : List ℕ). get_or places 0 to) (w.before ∙ w.here)

  -- from the first on, they are the same places
  pub from_first : (from : ℕ) → differing f g (get_or (differing f g from to) 0 to) to ≡ differing f g from to
  from_first from =
      ⊎_elim
      (λ none. ap (λ (places : List ℕ). differing f g (get_or places 0 to) to) none ∙ none_left f g to to (omega arith) ∙ sym none)
      (λ w. ap (λ (i : ℕ). differing f g i to) (first-place from w.0 w.1) ∙ sym w.1.before)
      (first_of from)
