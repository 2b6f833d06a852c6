-- The refusals and their numbers.
use Rattle.std.specs.Prelude.{ℕ, Result, Ok, Err}
use Rattle.refusal.specs.declared.kinds.Refusal.{Refusal}
use Rattle.refusal.specs.declared.kinds.Refusal.TheVariants.{Side, Level, Start, Plane, Grid, List, Order, Window, Vector, Mark, Length, Odd, Room, Shapes}

-- the number of a refusal
abbrev pub number_of : Refusal → ℕ
number_of Side = 1
number_of Level = 2
number_of Start = 3
number_of Plane = 4
number_of Grid = 5
number_of List = 6
number_of Order = 7
number_of Window = 8
number_of Vector = 9
number_of Mark = 10
number_of Length = 11
number_of Odd = 12
number_of Room = 13
number_of Shapes = 14

-- 0 is done, any other number a refusal
abbrev pub code_of : {A : Type 0} → Result A Refusal → ℕ
code_of (Ok _) = 0
code_of (Err refusal) = number_of refusal
