-- Laws of listed lines: those of cells behind others, and of one cell more. Assumes nothing.
use mathlib.Core.Path.{◌≡◌, sym, ap, ◌∙◌}
use mathlib.Core.List.{List, [], ◌∷◌, ◌++◌, append_assoc, append-nil}
use Prim.Native.Nat.{ℕ, suc, ◌+◌}
use native.Mathlib.Nat.{add-zero}
use native.Mathlib.Omega.{arith}
use lib.ListN.{length}
use Rattle.grid.specs.declared.cells.MEStats.{MEStats}
use Rattle.listing.specs.Lines.{listed_line, listed_lines}
use Rattle.listing.specs.Cells.{cells_from}
use Rattle.listing.proofs.CellLaws.{cells-length, cells-more}

pub lines_joined : (across i : ℕ) (cs ds : List MEStats) → listed_lines across i (cs ++ ds) ≡ listed_lines across i cs ++ listed_lines across (i + length cs) ds
unfolding listed_lines
lines_joined across i [] ds = rw add-zero
lines_joined across i (c ∷ cs) ds =
    let here = listed_line across i c in
    let next : suc i + length cs ≡ i + suc (length cs) = omega arith in
    ap (λ (l : List ℕ). here ++ l) (lines_joined across (suc i) cs ds ∙ ap (λ (k : ℕ). listed_lines across (suc i) cs ++ listed_lines across k ds) next)
    ∙ sym (append_assoc here _ _)

pub lines_more : (across i : ℕ) (cell : ℕ → MEStats) (n : ℕ) {c : MEStats} → c ≡ cell n → listed_lines across i (cells_from cell 0 n) ++ listed_line across (i + n) c ≡ listed_lines across i (cells_from cell 0 (n + 1))
unfolding listed_lines
lines_more across i cell n e = rw (e, cells-more cell n, lines_joined, cells-length, append-nil)
