-- Laws of sums of absolute differences: one term more, and the bounds. Assumes nothing.
use mathlib.Core.Path.{◌≡◌, refl, sym, ap, ap₂, ◌∙◌}
use mathlib.Core.List.{List, ◌∷◌}
use Prim.Native.Nat.{ℕ, zero, suc, ◌+◌, ◌-◌, ◌*◌, ◌≤◌, ◌<◌, zero-le}
use native.Mathlib.Nat.{add-zero, add-suc, add_assoc, add-mul, le-suc, le_refl, mul-suc, add-le-add, le_trans, le_of_eq}
use native.Mathlib.Numerals.{add-one}
use native.Mathlib.Omega.{arith}
use lib.ListN.{get_or, length, take, drop}
use Rattle.std.proofs.lemmas.List.{get_or-take, get_or-drop, length-drop, length-take-le}
use Rattle.sad.specs.Sad.{sum_to, abs_diff, sad_row, sad_block}
use Rattle.sad.specs.Asked.{Inside}

sum_more : (i : ℕ) (f : ℕ → ℕ) → sum_to (i + 1) f ≡ sum_to i f + f i
unfolding sum_to
sum_more i f = ap (λ (n : ℕ). sum_to n f) (add-one i)

-- equal terms
pub sum_same : (n : ℕ) (f g : ℕ → ℕ) → ((i : ℕ) → i < n → f i ≡ g i) → sum_to n f ≡ sum_to n g
unfolding sum_to
sum_same zero f g h = refl
sum_same (suc n) f g h = ap₂ ◌+◌ (sum_same n f g (λ i p. h i (omega arith))) (h n (omega arith))

-- the first m terms, then n more
pub sum_then : (m n : ℕ) (f : ℕ → ℕ) → sum_to (m + n) f ≡ sum_to m f + sum_to n (λ i. f (m + i))
unfolding sum_to
sum_then m zero f = ap (λ (k : ℕ). sum_to k f) (add-zero m) ∙ sym (add-zero (sum_to m f))
sum_then m (suc n) f =
    let more = ap (λ (k : ℕ). sum_to k f) (add-suc m n) in
    omega (arith, more, sum_then m n f)

-- some of the terms are no more than all
sum_part : (m n : ℕ) (f : ℕ → ℕ) → m ≤ n → sum_to m f ≤ sum_to n f
sum_part m n f h =
    let rest : m + (n - m) ≡ n = omega arith in
    omega (arith, sum_then m (n - m) f, ap (λ (k : ℕ). sum_to k f) rest)

-- n terms of at most m
sum_le : (n m : ℕ) (f : ℕ → ℕ) → ((i : ℕ) → i < n → f i ≤ m) → sum_to n f ≤ m * n
unfolding sum_to
sum_le zero m f h = zero-le
sum_le (suc n) m f h =
    le_trans (add-le-add (sum_le n m f (λ i p. h i (le_trans p (le-suc n)))) (h n (le_refl (suc n)))) (le_of_eq (sym (mul-suc m n)))

-- samples of at most m differ by at most m
pub diff_le : (a b m : ℕ) → a ≤ m → b ≤ m → abs_diff a b ≤ m
unfolding abs_diff
diff_le a b m ha hb = omega arith

-- a loop that has passed some columns, or rows, passes one more
module _ (cur : List ℕ) (src : ℕ) (ref : List ℕ) (dst : ℕ) where
  pub row-none : sad_row cur src ref dst 0 ≡ 0
  unfolding sad_row sum_to
  row-none = refl

  pub row_more : (x : ℕ) → sad_row cur src ref dst (x + 1) ≡ sad_row cur src ref dst x + abs_diff (get_or cur (src + x) 0) (get_or ref (dst + x) 0)
  unfolding sad_row
  row_more x = sum_more x (λ i. abs_diff (get_or cur (src + i) 0) (get_or ref (dst + i) 0))

  pub block_none : (stride w : ℕ) → sad_block cur src ref dst stride w 0 ≡ 0
  unfolding sad_block sum_to
  block_none stride w = refl

  pub block_more : (stride w y : ℕ) → sad_block cur src ref dst stride w (y + 1) ≡ sad_block cur src ref dst stride w y + sad_row cur (src + y * stride) ref (dst + y * stride) w
  unfolding sad_block
  block_more stride w y = sum_more y (λ i. sad_row cur (src + i * stride) ref (dst + i * stride) w)

module _ (cur : List ℕ) (src : ℕ) (ref : List ℕ) (dst stride : ℕ) where
  -- h rows, then g more
  pub block_then : (w h g : ℕ) → sad_block cur src ref dst stride w (h + g) ≡ sad_block cur src ref dst stride w h + sad_block cur (src + h * stride) ref (dst + h * stride) stride w g
  unfolding sad_block
  block_then w h g =
      let below : (s y : ℕ) → s + (h + y) * stride ≡ s + h * stride + y * stride = λ s y. ap (λ (n : ℕ). s + n) (add-mul h y stride) ∙ sym (add_assoc s (h * stride) (y * stride)) in
      sum_then h g (λ y. sad_row cur (src + y * stride) ref (dst + y * stride) w)
      ∙ ap (λ (n : ℕ). sad_block cur src ref dst stride w h + n)
      (sum_same g (λ y. sad_row cur (src + (h + y) * stride) ref (dst + (h + y) * stride) w) (λ y. sad_row cur (src + h * stride + y * stride) ref (dst + h * stride + y * stride) w) (λ y p. ap₂ (λ (s d : ℕ). sad_row cur s ref d w) (below src y) (below dst y)))

-- v columns, then w more
pub row-then : (cur : List ℕ) (src : ℕ) (ref : List ℕ) (dst v w : ℕ) → sad_row cur src ref dst (v + w) ≡ sad_row cur src ref dst v + sad_row cur (src + v) ref (dst + v) w
unfolding sad_row
row-then cur src ref dst v w =
    sum_then v w (λ x. abs_diff (get_or cur (src + x) 0) (get_or ref (dst + x) 0))
    ∙ ap (λ (n : ℕ). sad_row cur src ref dst v + n)
    (sum_same w (λ x. abs_diff (get_or cur (src + (v + x)) 0) (get_or ref (dst + (v + x)) 0)) (λ x. abs_diff (get_or cur (src + v + x) 0) (get_or ref (dst + v + x) 0)) (λ x below. ap₂ (λ (s d : ℕ). abs_diff (get_or cur s 0) (get_or ref d 0)) (sym (add_assoc src v x)) (sym (add_assoc dst v x))))

-- the first column, then the others
pub row-cons : (a b : ℕ) (xs ys : List ℕ) (n : ℕ) → sad_row (a ∷ xs) 0 (b ∷ ys) 0 (suc n) ≡ abs_diff a b + sad_row xs 0 ys 0 n
unfolding sad_row sum_to
row-cons a b xs ys n =
    let one : 1 + n ≡ suc n = omega arith in
    let next : (i : ℕ) → 0 + (1 + i) ≡ suc (0 + i) = λ i. omega arith in
    let f : ℕ → ℕ = λ x. abs_diff (get_or (a ∷ xs) (0 + x) 0) (get_or (b ∷ ys) (0 + x) 0) in
    let rest = sum_same n (λ i. f (1 + i)) (λ i. abs_diff (get_or xs (0 + i) 0) (get_or ys (0 + i) 0)) (λ i p. ap (λ (k : ℕ). abs_diff (get_or (a ∷ xs) k 0) (get_or (b ∷ ys) k 0)) (next i)) in
    omega (arith, ap (λ (k : ℕ). sum_to k f) one, sum_then 1 n f, rest)

-- n samples from s and from d on, cut out of their lists
part-sample : (xs : List ℕ) (s n i : ℕ) → i < n → get_or (take n (drop s xs)) (0 + i) 0 ≡ get_or xs (s + i) 0
part-sample xs s n i h =
    let at : 0 + i ≡ i = omega arith in
    ap (λ (k : ℕ). get_or (take n (drop s xs)) k 0) at ∙ get_or-take n (drop s xs) i 0 h ∙ get_or-drop s xs i 0

pub row-cut : (cur : List ℕ) (s : ℕ) (ref : List ℕ) (d n m k : ℕ) → s + n ≤ length cur → m ≡ n → k ≡ n → sad_row (take m (drop s cur)) 0 (take k (drop d ref)) 0 (length (take m (drop s cur))) ≡ sad_row cur s ref d n
unfolding sad_row
row-cut cur s ref d n m k h em ek =
    let few : n ≤ length (drop s cur) = omega (arith, length-drop {A = ℕ}) in
    rw (em, ek, length-take-le n (drop s cur) few)
    (sum_same n (λ x. abs_diff (get_or (take n (drop s cur)) (0 + x) 0) (get_or (take n (drop d ref)) (0 + x) 0)) (λ x. abs_diff (get_or cur (s + x) 0) (get_or ref (d + x) 0))
    (λ x p. ap₂ abs_diff (part-sample cur s n x p) (part-sample ref d n x p)))

-- some samples of a row, and the rows before it, are no more than the block
row-part : (cur : List ℕ) (src : ℕ) (ref : List ℕ) (dst x w : ℕ) → x ≤ w → sad_row cur src ref dst x ≤ sad_row cur src ref dst w
unfolding sad_row
row-part cur src ref dst x w h = sum_part x w (λ i. abs_diff (get_or cur (src + i) 0) (get_or ref (dst + i) 0)) h

module _ (cur : List ℕ) (src : ℕ) (ref : List ℕ) (dst stride w h : ℕ) where
  pub rows-part : (y : ℕ) → y ≤ h → sad_block cur src ref dst stride w y ≤ sad_block cur src ref dst stride w h
  unfolding sad_block
  rows-part y p = sum_part y h (λ i. sad_row cur (src + i * stride) ref (dst + i * stride) w) p

  pub block_part : (y x : ℕ) → y < h → x ≤ w → sad_block cur src ref dst stride w y + sad_row cur (src + y * stride) ref (dst + y * stride) x ≤ sad_block cur src ref dst stride w h
  block_part y x p q =
      omega (arith, row-part cur (src + y * stride) ref (dst + y * stride) x w q, block_more cur src ref dst stride w y, rows-part (y + 1) (omega arith))

-- samples of at most m in both lists
abbrev pub Under : ℕ → List ℕ → Type 0
Under m xs = (i : ℕ) → get_or xs i 0 ≤ m

module _ (m : ℕ) (cur ref : List ℕ) (hc : Under m cur) (hr : Under m ref) where
  pub row-le : (src dst w : ℕ) → sad_row cur src ref dst w ≤ m * w
  unfolding sad_row
  row-le src dst w =
      sum_le w m (λ x. abs_diff (get_or cur (src + x) 0) (get_or ref (dst + x) 0))
      (λ x p. diff_le (get_or cur (src + x) 0) (get_or ref (dst + x) 0) m (hc (src + x)) (hr (dst + x)))

  pub block_le : (src dst stride w h : ℕ) → sad_block cur src ref dst stride w h ≤ m * w * h
  unfolding sad_block
  block_le src dst stride w h =
      sum_le h (m * w) (λ y. sad_row cur (src + y * stride) ref (dst + y * stride) w)
      (λ y p. row-le (src + y * stride) (dst + y * stride) w)

-- samples past those that are summed do not count
module _ (n : ℕ) (cur cur' ref ref' : List ℕ) (hc : (k : ℕ) → k < n → get_or cur k 0 ≡ get_or cur' k 0) (hr : (k : ℕ) → k < n → get_or ref k 0 ≡ get_or ref' k 0) where
  row_same : (src dst w : ℕ) → src + w ≤ n → dst + w ≤ n → sad_row cur src ref dst w ≡ sad_row cur' src ref' dst w
  unfolding sad_row
  row_same src dst w p q =
      sum_same w _ _ (λ x less. ap₂ abs_diff (hc (src + x) (omega arith)) (hr (dst + x) (omega arith)))

  pub block_same : (src dst stride w h : ℕ) → Inside n src stride w h → Inside n dst stride w h → sad_block cur src ref dst stride w h ≡ sad_block cur' src ref' dst stride w h
  unfolding sad_block
  block_same src dst stride w h p q =
      sum_same h _ _ (λ y less. row_same (src + y * stride) (dst + y * stride) w (p y less) (q y less))
