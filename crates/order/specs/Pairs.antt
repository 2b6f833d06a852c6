-- What the test of a list says, in propositions.
use Rattle.std.specs.Prelude.{◌≡◌, true, List, ◌∷◌, ◌++◌, ℕ, ◌*◌, ◌<◌, length, get_or}
use Rattle.order.specs.List.{times, shares_edge, list_refusal}

-- each of n superblocks exactly once, and nothing else
pub record NamesOnce (n : ℕ) (list : List ℕ) : Type 0 where
  pub once : (k : ℕ) → k < n → times k list ≡ 1
  pub only : (i : ℕ) → i < length list → get_or list i 0 < n

-- a pair that shares an edge stands against raster order: a comes first in raster order, and b first in the list
pub record Against (across : ℕ) (list : List ℕ) : Type 0 where
  pub a : ℕ
  pub b : ℕ
  pub earlier : a < b
  pub shares : shares_edge across a b ≡ true
  pub front : List ℕ
  pub middle : List ℕ
  pub back : List ℕ
  pub turned : list ≡ front ++ b ∷ (middle ++ a ∷ back)

-- 6 for a list that does not name each superblock once, 7 for any other with a pair against raster order, and 0 for the rest
pub record Tested (across down : ℕ) (list : List ℕ) : Type 0 where
  pub six : (NamesOnce (across * down) list → ⊥) → list_refusal across down list ≡ 6
  pub seven : NamesOnce (across * down) list → Against across list → list_refusal across down list ≡ 7
  pub taken : NamesOnce (across * down) list → (Against across list → ⊥) → list_refusal across down list ≡ 0

abbrev pub ListTest : Type 0
ListTest = (across down : ℕ) (list : List ℕ) → Tested across down list
