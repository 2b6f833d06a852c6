-- Tests of many numbers at once.
use Rattle.std.specs.Prelude.{ℕ, zero, suc, Bool, true, ◌&&◌, List, [], ◌∷◌}

-- whether a test holds of every number below n
unfoldable pub all_below : ℕ → (ℕ → Bool) → Bool
all_below zero test = true
all_below (suc n) test = all_below n test && test n

-- whether a test holds of every member of a list
unfoldable pub all_in : List ℕ → (ℕ → Bool) → Bool
all_in [] test = true
all_in (x ∷ xs) test = test x && all_in xs test
