-- Laws of the cells that bytes hand out, and of the grid that takes them in. Assumes nothing.
use mathlib.Core.Path.{◌≡◌, refl, sym, ap, ◌∙◌}
use mathlib.Core.Bool.{Bool, true, false, cond}
use mathlib.Core.List.{List, [], ◌∷◌, ◌++◌, append_assoc}
use Prim.Native.Nat.{ℕ, ◌≤◌, ◌<◌}
use borrow.Author.Tests.{lt-ltb, le-ltb}
use lib.Dec.{ltb}
use Rattle.grid.specs.Grid.{Grid, with_cell}
use Rattle.records.specs.Records.{cell_of}
use Rattle.gridfile.specs.Reading.{State, cell_shown, next, taken, Placed, handed, emitted, with_placed, keep, kept}

-- a byte hands out a cell where one more is whole after it
module _ (room : ℕ) (s : State) (byte : ℕ) where
  abbrev completed : Placed
  completed = record { place = s.cells; cell = cell_of (cell_shown s (s.part ++ byte ∷ [])) (s.part ++ byte ∷ []) }

  pub hands_none : (next room s byte).cells ≤ s.cells → handed room s byte ≡ []
  unfolding handed
  hands_none few = rw (le-ltb s.cells (next room s byte).cells few)

  pub hands_one : s.cells < (next room s byte).cells → handed room s byte ≡ completed ∷ []
  unfolding handed
  hands_one more = rw (lt-ltb s.cells (next room s byte).cells more)

-- one fragment after another
pub emitted-append : (room : ℕ) (s : State) (xs ys : List ℕ) → emitted room s (xs ++ ys) ≡ emitted room s xs ++ emitted room (taken room s xs) ys
unfolding emitted taken
emitted-append room s [] ys = refl
emitted-append room s (x ∷ xs) ys =
    let later = next room s x in
    ap (λ (ps : List Placed). handed room s x ++ ps) (emitted-append room later xs ys) ∙ sym (append_assoc (handed room s x) (emitted room later xs) (emitted room (taken room later xs) ys))

-- equal cells make equal grids
pub placed_same : {ps qs : List Placed} → ps ≡ qs → (g : Grid) → with_placed ps g ≡ with_placed qs g
placed_same e g = ap (λ (ps : List Placed). with_placed ps g) e

-- cells that go to a grid behind others
placed-append : (ps qs : List Placed) (g : Grid) → with_placed (ps ++ qs) g ≡ with_placed qs (with_placed ps g)
unfolding with_placed
placed-append [] qs g = refl
placed-append (p ∷ ps) qs g = placed-append ps qs (with_cell p.place p.cell g)

pub kept_append : (room : ℕ) (s : State) (xs ys : List ℕ) (g : Grid) → kept room s (xs ++ ys) g ≡ kept room (taken room s xs) ys (kept room s xs g)
unfolding kept
kept_append room s xs ys g =
    placed_same (emitted-append room s xs ys) g ∙ placed-append (emitted room s xs) (emitted room (taken room s xs) ys) g

placed-if : (t : Bool) (p : Placed) (g : Grid) → with_placed (cond t (p ∷ []) []) g ≡ cond t (with_cell p.place p.cell g) g
unfolding with_placed
placed-if true p g = refl
placed-if false p g = refl

module _ (room : ℕ) (s : State) where
  -- no bytes
  pub kept-none : (g : Grid) → kept room s [] g ≡ g
  unfolding kept emitted with_placed
  kept-none g = refl

  -- a byte's cell, where it completes one
  pub keep-if : (byte : ℕ) (g : Grid) → keep room s byte g ≡ cond (ltb s.cells (next room s byte).cells) (with_cell s.cells (completed room s byte).cell g) g
  unfolding keep handed
  keep-if byte g = placed-if (ltb s.cells (next room s byte).cells) _ g

  -- one byte more at the front
  pub kept_more : (byte : ℕ) (bytes : List ℕ) (g : Grid) → kept room s (byte ∷ bytes) g ≡ kept room (next room s byte) bytes (keep room s byte g)
  unfolding kept keep emitted
  kept_more byte bytes g = placed-append (handed room s byte) (emitted room (next room s byte) bytes) g

  pub kept-one : (byte : ℕ) (g : Grid) → kept room s (byte ∷ []) g ≡ keep room s byte g
  unfolding kept emitted with_placed
  kept-one byte g = kept_more byte [] g
