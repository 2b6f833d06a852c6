-- The places where two grids differ are all of them, none exactly where the grids are equal, and come in blocks and one by one.
-- Assumes nothing.
use mathlib.Core.Path.{◌≡◌, refl, sym, ap, ◌∙◌}
use mathlib.Core.Logic.{⊎_elim}
use mathlib.Core.List.Memᴰ
use mathlib.Core.List.{List, [], ◌∷◌, ◌++◌}
use Prim.Native.Nat.{ℕ, ◌+◌, ◌-◌}
use native.Mathlib.Omega.{arith}
use lib.ListN.{length}
use Rattle.ground.proofs.TestLaws.{tested}
use Rattle.compare.specs.Differ.{differs_at, places_from, differing}
use Rattle.compare.specs.Places.{◌∈◌, ExactPlaces, NoneDiffer, InBlocks, OneByOne}
use Rattle.compare.proofs.CellLaws.{differs_of, same_of, differs_is}
use Rattle.compare.proofs.DifferLaws.{first_of, first-place}
use Rattle.compare.proofs.PlaceLaws.{some-member, member_passes, passes_member, places_rising, places_join}

pub exact_places : ExactPlaces
unfolding differing
exact_places f g from to =
    let member = member_passes (differs_at f g) (to - from) from in
    record {
      inside = λ i m. ((member i m).least, omega (arith, (member i m).least, (member i m).most));
      unequal = λ i m. differs_of f g i (member i m).passed;
      every = λ i low high off. passes_member (differs_at f g) (to - from) from i (record { least = low; most = omega arith; passed = differs_is f g i off });
      rising = places_rising (differs_at f g) (to - from) from;
    }

-- a list without a member has no length
empty : (l : List ℕ) → ((i : ℕ) → i ∈ l → ⊥) → length l ≡ 0
empty [] h = refl
empty (x ∷ xs) h = absurd (h x (Memᴰ.head refl))

pub none_differ : NoneDiffer
none_differ f g n =
    let all = exact_places f g 0 n in (
      λ none i below. ⊎_elim (λ d. absurd (omega (arith, none, some-member (all.every i (omega arith) below (differs_of f g i d))))) (same_of f g i) (tested (differs_at f g i)),
      λ equal. empty (differing f g 0 n) (λ i m. all.unequal i m (equal i (all.inside i m).1)),
    )

pub in_blocks : InBlocks
unfolding differing
in_blocks f g a b c ab bc =
    let count : c - a ≡ (b - a) + (c - b) = omega arith in
    let place : a + (b - a) ≡ b = omega arith in
    ap (places_from (differs_at f g) a) count ∙ places_join (differs_at f g) (b - a) (c - b) a
    ∙ ap (λ (i : ℕ). places_from (differs_at f g) a (b - a) ++ places_from (differs_at f g) i (c - b)) place

pub one_by_one : OneByOne
one_by_one f g from to some =
    ⊎_elim (λ none. absurd (omega (arith, some, ap length none)))
    (λ w. w.1.before ∙ w.1.here ∙ ap (λ (i : ℕ). i ∷ differing f g (i + 1) to) (sym (first-place f g to from w.0 w.1)))
    (first_of f g to from)
