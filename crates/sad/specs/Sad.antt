-- The sum of absolute differences of two blocks, over lists of sample values.
use Rattle.std.specs.Prelude.{ℕ, zero, suc, ◌+◌, ◌-◌, ◌*◌, List, get_or}

-- f 0 + f 1 + .. + f (n - 1)
unfoldable pub sum_to : ℕ → (ℕ → ℕ) → ℕ
sum_to zero f = 0
sum_to (suc n) f = sum_to n f + f n

-- |a − b|
unfoldable pub abs_diff : ℕ → ℕ → ℕ
abs_diff a b = (a - b) + (b - a)

-- the sum over the w columns of a row that starts at `src` in the one list and at `dst` in the other
unfoldable pub sad_row : (cur : List ℕ) (src : ℕ) (ref : List ℕ) (dst w : ℕ) → ℕ
sad_row cur src ref dst w = sum_to w (λ x. abs_diff (get_or cur (src + x) 0) (get_or ref (dst + x) 0))

-- the sum over the h rows of a block, each `stride` samples after the one before
unfoldable pub sad_block : (cur : List ℕ) (src : ℕ) (ref : List ℕ) (dst stride w h : ℕ) → ℕ
sad_block cur src ref dst stride w h = sum_to h (λ y. sad_row cur (src + y * stride) ref (dst + y * stride) w)
