-- Laws of the places that pass a test: which they are, that they rise, and that places behind one another are one list.
-- Assumes nothing.
use mathlib.Core.Path.{◌≡◌, refl, sym, ap, subst, ◌∙◌}
use mathlib.Core.Logic.{⊎_elim}
use mathlib.Core.Bool.{Bool, true, false, cond}
use mathlib.Core.List.Memᴰ
use mathlib.Core.List.{List, [], ◌∷◌, ◌++◌}
use Prim.Native.Nat.{ℕ, zero, suc, ◌+◌, ◌≤◌, ◌<◌}
use native.Mathlib.Nat.{eq-or-lt_of_le, add-zero, zero-add, suc-add}
use native.Mathlib.Omega.{arith}
use lib.ListN.{length, get_or}
use Rattle.compare.specs.Differ.{places_from}
use Rattle.compare.specs.Places.{◌∈◌}

-- a list that starts at a number or above it and rises
Rises : ℕ → List ℕ → Type 0
Rises least [] = Unit {0}
Rises least (x ∷ xs) = (least ≤ x) × Rises (suc x) xs

rises_above : (m n : ℕ) (l : List ℕ) → m ≤ n → Rises n l → Rises m l
unfolding Rises
rises_above m n [] h r = tt
rises_above m n (x ∷ xs) h r = (omega arith, r.1)

least_at : (m : ℕ) (l : List ℕ) → Rises m l → (k : ℕ) → k < length l → m ≤ get_or l k 0
unfolding Rises
least_at m [] r k h = absurd (omega arith)
least_at m (x ∷ xs) r zero h = r.0
least_at m (x ∷ xs) r (suc k) h = omega (arith, r.0, least_at (suc x) xs r.1 k (omega arith))

rises_at : (m : ℕ) (l : List ℕ) → Rises m l → (j k : ℕ) → j < k → k < length l → get_or l j 0 < get_or l k 0
unfolding Rises
rises_at m [] r j k h below = absurd (omega arith)
rises_at m (x ∷ xs) r j zero h below = absurd (omega arith)
rises_at m (x ∷ xs) r zero (suc k) h below = least_at (suc x) xs r.1 k (omega arith)
rises_at m (x ∷ xs) r (suc j) (suc k) h below = rises_at (suc x) xs r.1 j k (omega arith) (omega arith)

-- a list with a member is not empty
pub some-member : {i : ℕ} {l : List ℕ} → i ∈ l → 0 < length l
some-member (Memᴰ.head e) = omega arith
some-member (Memᴰ.tail m) = omega arith

-- a place in front of others, where it passes
abbrev led : Bool → ℕ → List ℕ → List ℕ
led t place rest = cond t (place ∷ rest) rest

led_member : (t : Bool) (place : ℕ) {i : ℕ} {rest : List ℕ} → i ∈ rest → i ∈ led t place rest
led_member true place m = Memᴰ.tail m
led_member false place m = m

led_rises : (t : Bool) (place : ℕ) (rest : List ℕ) → Rises (suc place) rest → Rises place (led t place rest)
unfolding Rises
led_rises true place rest r = (omega arith, r)
led_rises false place rest r = rises_above place (suc place) rest (omega arith) r

led_joins : (t : Bool) (place : ℕ) (rest more : List ℕ) → led t place (rest ++ more) ≡ led t place rest ++ more
led_joins true place rest more = refl
led_joins false place rest more = refl

module _ (test : ℕ → Bool) where
  -- a place among so many that passes
  pub record Passes (from count i : ℕ) : Type 0 where
    pub least : from ≤ i
    pub most : i < from + count
    pub passed : test i ≡ true

  later : {from count i : ℕ} → Passes (suc from) count i → Passes from (suc count) i
  later p = record { least = omega (arith, p.least); most = omega (arith, p.most); passed = p.passed }

  led_passes : (t : Bool) {from count i : ℕ} {rest : List ℕ} → test from ≡ t → (i ∈ rest → Passes (suc from) count i) → i ∈ led t from rest → Passes from (suc count) i
  led_passes true e rest m =
      ⊎_elim (λ here. record { least = omega arith; most = omega arith; passed = ap test here ∙ e }) (λ tail. later (rest tail)) (Memᴰ.cases_cons m)
  led_passes false e rest m = later (rest m)

  pub member_passes : (count from i : ℕ) → i ∈ places_from test from count → Passes from count i
  unfolding places_from
  member_passes zero from i m = absurd (Memᴰ.not-nil m)
  member_passes (suc n) from i m = led_passes (test from) refl (member_passes n (suc from) i) m

  pub passes_member : (count from i : ℕ) → Passes from count i → i ∈ places_from test from count
  unfolding places_from
  passes_member zero from i p = absurd (omega (arith, p.least, p.most))
  passes_member (suc n) from i p =
      ⊎_elim
      (λ here. subst (λ (t : Bool). i ∈ led t from (places_from test (suc from) n)) (sym (ap test here ∙ p.passed)) (Memᴰ.head (sym here)))
      (λ behind. led_member (test from) from (passes_member n (suc from) i (record { least = behind; most = omega (arith, p.most); passed = p.passed })))
      (eq-or-lt_of_le p.least)

  places_rise : (count from : ℕ) → Rises from (places_from test from count)
  unfolding places_from Rises
  places_rise zero from = tt
  places_rise (suc n) from = led_rises (test from) from (places_from test (suc from) n) (places_rise n (suc from))

  pub places_rising : (count from j k : ℕ) → j < k → k < length (places_from test from count) → get_or (places_from test from count) j 0 < get_or (places_from test from count) k 0
  places_rising n from = rises_at from (places_from test from n) (places_rise n from)

  pub places_join : (n m from : ℕ) → places_from test from (n + m) ≡ places_from test from n ++ places_from test (from + n) m
  unfolding places_from
  places_join zero m from = rw (zero-add, add-zero)
  places_join (suc n) m from =
      let next : suc from + n ≡ from + suc n = omega arith in
      rw (suc-add) (ap (led (test from) from) (places_join n m (suc from)) ∙ led_joins (test from) from _ _ ∙ ap (λ (k : ℕ). places_from test from (suc n) ++ places_from test k m) next)
