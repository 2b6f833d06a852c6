-- What is promised of the places where two grids differ.
use Rattle.std.specs.Prelude.{◌≡◌, ℕ, ◌+◌, ◌≤◌, ◌<◌, length, get_or}
use mathlib.Core.List.{List, ◌∷◌, ◌++◌, Memᴰ}
use Rattle.grid.specs.Grid.{Grid, stats_at}
use Rattle.gridfile.specs.Keeps.{SameCells}
use Rattle.compare.specs.Differ.{differing}

-- a place is in a list
infix 20 ◌∈◌
abbrev pub ◌∈◌ : ℕ → List ℕ → Type 0
i ∈ places = Memᴰ i places

-- exactly the places from one cell on up to another that do not hold the same, each once, in rising order
pub record Exactly (f g : Grid) (from to : ℕ) (places : List ℕ) : Type 0 where
  pub inside : (i : ℕ) → i ∈ places → (from ≤ i) × (i < to)
  pub unequal : (i : ℕ) → i ∈ places → stats_at f i ≡ stats_at g i → ⊥
  pub every : (i : ℕ) → from ≤ i → i < to → (stats_at f i ≡ stats_at g i → ⊥) → i ∈ places
  pub rising : (j k : ℕ) → j < k → k < length places → get_or places j 0 < get_or places k 0

abbrev pub ExactPlaces : Type 0
ExactPlaces = (f g : Grid) (from to : ℕ) → Exactly f g from to (differing f g from to)

-- there is none exactly where the two grids have the same first n cells
abbrev pub NoneDiffer : Type 0
NoneDiffer =
    (f g : Grid) (n : ℕ) → (length (differing f g 0 n) ≡ 0 → SameCells n f g) × (SameCells n f g → length (differing f g 0 n) ≡ 0)

-- blocks of cells behind one another are one
abbrev pub InBlocks : Type 0
InBlocks =
    (f g : Grid) (a b c : ℕ) → a ≤ b → b ≤ c → differing f g a c ≡ differing f g a b ++ differing f g b c

-- after the first come those from the cell behind it on
abbrev pub OneByOne : Type 0
OneByOne =
    (f g : Grid) (from to : ℕ) →
    let first = get_or (differing f g from to) 0 to in
    0 < length (differing f g from to) → differing f g from to ≡ first ∷ differing f g (first + 1) to
