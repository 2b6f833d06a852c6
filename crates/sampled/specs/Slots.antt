-- At most five, beside their count: an array of five whose slots past the count hold zero.
use Rattle.std.specs.Prelude.{ℕ, ◌-◌, List, ◌++◌, length, replicate}

-- how many slots there are
abbrev pub slots : ℕ
slots = 5

-- a list in its slots
unfoldable pub slotted : {A : Type 0} → A → List A → List A
slotted zero xs = xs ++ replicate (slots - length xs) zero
