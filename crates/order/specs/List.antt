-- Which lists of superblocks a frame run takes. A frame has `across` superblocks in each row, numbered from 0 in raster order.
use Rattle.std.specs.Prelude.{ℕ, zero, suc, ◌+◌, ◌*◌, ◌%◌, Bool, true, false, cond, not, ◌&&◌, ◌||◌, List, [], ◌∷◌, ◌++◌, ltb, eqb}
use Rattle.ground.specs.Every.{all_below, all_in}

-- a frame of 1,024 by 1,024 has 16 rows of 16 superblocks
abbrev pub most_superblocks : ℕ
most_superblocks = 256

-- how often a number occurs in a list
unfoldable pub times : ℕ → List ℕ → ℕ
times n [] = 0
times n (x ∷ xs) = cond (eqb x n) 1 0 + times n xs

-- each number below n exactly once, and nothing else
unfoldable pub names_each : ℕ → List ℕ → Bool
names_each n list = all_below n (λ k. eqb (times k list) 1) && all_in list (λ k. ltb k n)

-- whether a is met before b, from the start of a list
unfoldable pub before : ℕ → ℕ → List ℕ → Bool
before a b [] = false
before a b (x ∷ xs) = cond (eqb x a) true (cond (eqb x b) false (before a b xs))

-- whether b stands to the right of a, in its row, or below it
unfoldable pub shares_edge : ℕ → ℕ → ℕ → Bool
shares_edge across a b = eqb b (a + 1) && not (eqb (b % across) 0) || eqb b (a + across)

-- whether a test holds of every superblock that shares an edge with b and precedes it in raster order
unfoldable pub all_earlier : ℕ → ℕ → (ℕ → Bool) → Bool
all_earlier across b test = all_below b (λ a. cond (shares_edge across a b) (test a) true)

-- no pair of the n superblocks that shares an edge stands against raster order
unfoldable pub keeps_raster : ℕ → ℕ → List ℕ → Bool
keeps_raster across n list = all_below n (λ b. all_earlier across b (λ a. before a b list))

-- 6: not each superblock exactly once and nothing else; 7: a pair sharing an edge against raster order
unfoldable pub list_refusal : ℕ → ℕ → List ℕ → ℕ
list_refusal across down list =
    cond (names_each (across * down) list) (cond (keeps_raster across (across * down) list) 0 7) 6

-- 0, 1, .., n − 1: raster order
unfoldable pub raster : ℕ → List ℕ
raster zero = []
raster (suc n) = raster n ++ n ∷ []
