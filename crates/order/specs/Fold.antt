-- When two lists have the same fold: two lists without repeats, of the same members, which agree on the order of every pair that
-- shares an edge, where steps that share no edge commute.
use Rattle.std.specs.Prelude.{◌≡◌, Bool, true, false, List, [], ◌∷◌, ℕ, ◌≤◌, ◌<◌}
use Rattle.order.specs.List.{times, before}

-- a step for each member, in list order
unfoldable pub fold_steps : {G : Type 0} (step : ℕ → G → G) (list : List ℕ) (g : G) → G
fold_steps step [] g = g
fold_steps step (x ∷ xs) g = fold_steps step xs (step x g)

-- no number twice, the same members, and of each pair of members that shares an edge the same one first
pub record Alike (shares : ℕ → ℕ → Bool) (xs ys : List ℕ) : Type 0 where
  pub once : (k : ℕ) → times k xs ≤ 1
  pub members : (k : ℕ) → times k xs ≡ times k ys
  pub ordered : (a b : ℕ) → 0 < times a xs → 0 < times b xs → shares a b ≡ true → before a b xs ≡ before a b ys

-- two steps of different members that share no edge, either way round, can change places
abbrev pub Commute : {G : Type 0} → (ℕ → ℕ → Bool) → (ℕ → G → G) → List ℕ → Type 0
Commute {G} shares step xs =
    (a b : ℕ) → 0 < times a xs → 0 < times b xs → (a ≡ b → ⊥) → shares a b ≡ false → shares b a ≡ false → (g : G) → step a (step b g) ≡ step b (step a g)

-- for any state, any step and any relation
abbrev pub SameFold : Type 1
SameFold =
    (G : Type 0) (shares : ℕ → ℕ → Bool) (step : ℕ → G → G) (xs ys : List ℕ) → Alike shares xs ys → Commute shares step xs → (g : G) → fold_steps step xs g ≡ fold_steps step ys g
