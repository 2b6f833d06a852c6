-- The sum over a file's bytes, by which a file that changed is told.
use Rattle.std.specs.Prelude.{ℕ, ◌+◌, ◌*◌, ◌%◌, ◌^◌, List, [], ◌∷◌}

-- one byte more: the lower 32 bits times a prime, and the byte
unfoldable pub sum_with : (sum byte : ℕ) → ℕ
sum_with sum byte = sum % 2 ^ 32 * 16777619 + byte

unfoldable pub sum_over : ℕ → List ℕ → ℕ
sum_over sum [] = sum
sum_over sum (byte ∷ bytes) = sum_over (sum_with sum byte) bytes
