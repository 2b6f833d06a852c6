-- Two results that the same promise allows are equal, for each form that a promise has. Assumes nothing.
use mathlib.Core.Path.{◌≡◌, sym, ◌∙◌}
use Rattle.theorems.specs.Determined.{Determines, Determined}

equal : {A : Type 0} (d : A) → Determines (λ (r : A). r ≡ d)
equal d r s p q = p ∙ sym q

pair : {A B : Type 0} (d : A) (e : B) → Determines (λ (r : A × B). (r.0 ≡ d) × (r.1 ≡ e))
pair d e r s p q = λ i. (equal d r.0 s.0 p.0 q.0 i, equal e r.1 s.1 p.1 q.1 i)

pub determined : Determined
determined = record { returned = equal; and_grid = pair; and_bytes = pair }
