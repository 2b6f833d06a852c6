-- What it is for a promise to determine the result: any two results that it allows are equal.
use Rattle.std.specs.Prelude.{◌≡◌, List, ℕ}
use Rattle.grid.specs.Grid.{Grid}

abbrev pub Determines : {A : Type 0} → (A → Type 0) → Type 0
Determines {A} promise = (r s : A) → promise r → promise s → r ≡ s

-- the promises of the entry points have three forms, each an equation with a definition of the arguments
pub record Determined : Type 1 where
  -- what is returned, a record or a number
  pub returned : {A : Type 0} (d : A) → Determines (λ (r : A). r ≡ d)
  -- what is returned, and the grid that is left
  pub and_grid : {A : Type 0} (d : A) (left : Grid) → Determines (λ (r : A × Grid). (r.0 ≡ d) × (r.1 ≡ left))
  -- what is returned, and the bytes that are left
  pub and_bytes : {A : Type 0} (d : A) (left : List ℕ) → Determines (λ (r : A × List ℕ). (r.0 ≡ d) × (r.1 ≡ left))
