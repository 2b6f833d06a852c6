-- Laws of cells: those of places behind others, one more, and cells that are equal one by one. Assumes nothing.
use mathlib.Core.Path.{◌≡◌, refl, sym, ap, ap₂, ◌∙◌}
use mathlib.Core.List.{List, [], ◌∷◌, ◌++◌}
use Prim.Native.Nat.{ℕ, zero, suc, ◌+◌, ◌<◌}
use native.Mathlib.Nat.{add-zero, zero-add, suc-add}
use native.Mathlib.Omega.{arith}
use lib.ListN.{length}
use Rattle.grid.specs.declared.cells.MEStats.{MEStats}
use Rattle.listing.specs.Cells.{cells_from}

module _ (cell : ℕ → MEStats) where
  pub cells-length : (i n : ℕ) → length (cells_from cell i n) ≡ n
  unfolding cells_from
  cells-length i zero = refl
  cells-length i (suc n) = ap suc (cells-length (suc i) n)

  -- cells behind others
  pub cells-join : (i n m : ℕ) → cells_from cell i (n + m) ≡ cells_from cell i n ++ cells_from cell (i + n) m
  unfolding cells_from
  cells-join i zero m = rw (zero-add, add-zero)
  cells-join i (suc n) m =
      let next : suc i + n ≡ i + suc n = omega arith in
      rw (suc-add) (ap (λ (cells : List MEStats). cell i ∷ cells) (cells-join (suc i) n m ∙ ap (λ (k : ℕ). cells_from cell (suc i) n ++ cells_from cell k m) next))

  -- one cell more
  pub cells-more : (n : ℕ) → cells_from cell 0 (n + 1) ≡ cells_from cell 0 n ++ cell n ∷ []
  unfolding cells_from
  cells-more n = cells-join 0 n 1 ∙ ap (λ (k : ℕ). cells_from cell 0 n ++ cell k ∷ []) (zero-add n)

-- cells that are equal one by one
pub same-cells : (f g : ℕ → MEStats) (n i j : ℕ) → ((k : ℕ) → k < n → f (i + k) ≡ g (j + k)) → cells_from f i n ≡ cells_from g j n
unfolding cells_from
same-cells f g zero i j same = refl
same-cells f g (suc n) i j same =
    let here : f i ≡ g j = ap f (sym (add-zero i)) ∙ same 0 (omega arith) ∙ ap g (add-zero j) in
    let later : (k : ℕ) → k < n → f (suc i + k) ≡ g (suc j + k) = λ k below. ap f (omega arith) ∙ same (suc k) (omega arith) ∙ ap g (omega arith) in
    ap₂ (λ (c : MEStats) (cells : List MEStats). c ∷ cells) here (same-cells f g n (suc i) (suc j) later)
