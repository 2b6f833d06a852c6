-- How large the numbers of a tally are.
use Rattle.std.specs.Prelude.{ℕ, ◌≤◌}
use Rattle.replay.specs.declared.tally.Tally.{Tally}

-- no more cases came out equal than were read, no more were read than lines were passed, and those are at most n
abbrev pub Within : Tally → ℕ → Type 0
Within t n = (t.equal ≤ t.read) × (t.read ≤ t.lines) × (t.lines ≤ n)
