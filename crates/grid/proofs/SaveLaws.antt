-- Laws of saving a result: what the cells hold after it, and how two saves go together. Assumes nothing.
use mathlib.Core.Path.{◌≡◌, refl, sym, ap, ap₂, ◌∙◌}
use mathlib.Core.Bool.{Bool, true, false, ◌&&◌, ◌||◌, cond, false≢true, or-true}
use mathlib.Core.List.{List, [], ◌∷◌, ◌++◌}
use mathlib.Core.Logic.{⊎_elim}
use Prim.Native.Nat.{ℕ, zero, suc, ◌+◌, ◌-◌, ◌*◌, ◌/◌, ◌%◌, ◌≤◌, ◌<◌}
use native.Mathlib.Nat.{eq-zero-or-pos, mul-add-div_right, mul-add-mod_self_right, mod-eq_of_lt, div-eq_of_lt}
use native.Mathlib.Omega.{arith}
use borrow.Author.Tests.{ltb-true, leb-true, lt-ltb, le-leb}
use lib.Dec.{leb, ltb}
use lib.IntN.{pos}
use lib.Lanes.{put_chunk}
use lib.ListN.{length, get_or, set, take, drop, replicate, length-set}
use lib.Seq.{ext_get_or, get_or-set_same, get_or-set_other}
use borrow.Rule.Slice.PartMut.{mid_of, put_mid, mid_len}
use Rattle.std.proofs.lemmas.Simd.{put_chunk_is, length-put_chunk, get_or-put_chunk_below, get_or-put_chunk_at, get_or-put_chunk_above, length-replicate, get_or-replicate}
use Rattle.ground.proofs.TestLaws.{both, either, same}
use Rattle.motion.specs.Limits.{cell_side}
use Rattle.grid.specs.declared.cells.MEStats.{MEStats}
use Rattle.grid.specs.Grid.{Grid, grid_of, Held, cells, cell_at, stored_at, stats_at}
use Rattle.grid.specs.Save.{replace_from, replace, save_where, up_to, covers, save_block}

pub up-to_true : (low high n : ℕ) → up_to low high n ≡ true → (low ≤ n) × (n < high)
unfolding up_to
up-to_true low high n e =
    let halves = both (leb low n) (ltb n high) e in
    (leb-true low n halves.0, ltb-true n high halves.1)

pub true-up_to : (low high n : ℕ) → low ≤ n → n < high → up_to low high n ≡ true
unfolding up_to
true-up_to low high n f g = ap₂ ◌&&◌ (le-leb low n f) (lt-ltb n high g)

pub up-to_none : (n i : ℕ) → up_to n n i ≡ false
up-to_none n i = same _ _ (λ e. absurd (let h = up-to_true n n i e in omega arith)) (λ e. absurd (false≢true e))

-- one stretch after another
pub up-to_joins : (low mid high n : ℕ) → low ≤ mid → mid ≤ high → up_to mid high n || up_to low mid n ≡ up_to low high n
up-to_joins low mid high n f g = same _ _ (λ e. ⊎_elim after before (either _ _ e)) (λ e. ⊎_elim (λ z. late e (omega arith)) (λ p. early e (omega arith)) (eq-zero-or-pos (mid - n)))
  where
    after : up_to mid high n ≡ true → up_to low high n ≡ true
    after e = let h = up-to_true mid high n e in true-up_to low high n (omega arith) (omega arith)

    before : up_to low mid n ≡ true → up_to low high n ≡ true
    before e = let h = up-to_true low mid n e in true-up_to low high n (omega arith) (omega arith)

    early : up_to low high n ≡ true → n < mid → up_to mid high n || up_to low mid n ≡ true
    early e p = let h = up-to_true low high n e in ap (λ (t : Bool). up_to mid high n || t) (true-up_to low mid n h.0 p) ∙ or-true (up_to mid high n)

    late : up_to low high n ≡ true → mid ≤ n → up_to mid high n || up_to low mid n ≡ true
    late e p = let h = up-to_true low high n e in ap (λ (t : Bool). t || up_to low mid n) (true-up_to mid high n p h.1)

-- one list of which some places are replaced
module _ {A : Type 0} (test : ℕ → Bool) (new : A) where
  length_from : (k : ℕ) (xs : List A) → length (replace_from k test new xs) ≡ length xs
  unfolding replace_from
  length_from k [] = refl
  length_from k (x ∷ xs) = ap suc (length_from (suc k) xs)

  pub length-replace : (xs : List A) → length (replace test new xs) ≡ length xs
  unfolding replace
  length-replace xs = length_from 0 xs

  get_d_from : (k : ℕ) (xs : List A) (i : ℕ) (d : A) → i < length xs → get_or (replace_from k test new xs) i d ≡ cond (test (k + i)) new (get_or xs i d)
  unfolding replace_from
  get_d_from k [] i d h = absurd (omega arith)
  get_d_from k (x ∷ xs) zero d h = ap (λ (n : ℕ). cond (test n) new x) (omega arith)
  get_d_from k (x ∷ xs) (suc i) d h = get_d_from (suc k) xs i d (omega arith) ∙ ap (λ (n : ℕ). cond (test n) new (get_or xs i d)) (omega arith)

  pub get_d_replace : (xs : List A) (i : ℕ) (d : A) → i < length xs → get_or (replace test new xs) i d ≡ cond (test i) new (get_or xs i d)
  unfolding replace
  get_d_replace xs i d h = get_d_from 0 xs i d h ∙ ap (λ (n : ℕ). cond (test n) new (get_or xs i d)) (omega arith)

  kept_from : (k : ℕ) (xs : List A) (i : ℕ) (d : A) → test (k + i) ≡ false → get_or (replace_from k test new xs) i d ≡ get_or xs i d
  unfolding replace_from
  kept_from k [] i d e = refl
  kept_from k (x ∷ xs) zero d e = ap (λ (t : Bool). cond t new x) (ap test (omega arith) ∙ e)
  kept_from k (x ∷ xs) (suc i) d e = kept_from (suc k) xs i d (ap test (omega arith) ∙ e)

  pub get_d_kept : (xs : List A) (i : ℕ) (d : A) → test i ≡ false → get_or (replace test new xs) i d ≡ get_or xs i d
  unfolding replace
  get_d_kept xs i d e = kept_from 0 xs i d (ap test (omega arith) ∙ e)

  none_from : (k : ℕ) (xs : List A) → ((i : ℕ) → test i ≡ false) → replace_from k test new xs ≡ xs
  unfolding replace_from
  none_from k [] h = refl
  none_from k (x ∷ xs) h = ap₂ ◌∷◌ (ap (λ (t : Bool). cond t new x) (h k)) (none_from (suc k) xs h)

-- two replacements of one list
module _ {A : Type 0} where
  absorbed : (s t : Bool) (old new x : A) → (s ≡ true → t ≡ true) → cond t new (cond s old x) ≡ cond t new x
  absorbed s true old new x h = refl
  absorbed true false old new x h = absurd (false≢true (h refl))
  absorbed false false old new x h = refl

  absorbed_from : (inner outer : ℕ → Bool) (old new : A) (k : ℕ) (xs : List A) → ((i : ℕ) → inner i ≡ true → outer i ≡ true) → replace_from k outer new (replace_from k inner old xs) ≡ replace_from k outer new xs
  unfolding replace_from
  absorbed_from inner outer old new k [] h = refl
  absorbed_from inner outer old new k (x ∷ xs) h = ap₂ ◌∷◌ (absorbed (inner k) (outer k) old new x (h k)) (absorbed_from inner outer old new (suc k) xs h)

  swapped : (s t : Bool) (a b x : A) → (s ≡ true → t ≡ false) → cond s a (cond t b x) ≡ cond t b (cond s a x)
  swapped true true a b x h = absurd (false≢true (sym (h refl)))
  swapped true false a b x h = refl
  swapped false t a b x h = refl

  swapped_from : (one other : ℕ → Bool) (a b : A) (k : ℕ) (xs : List A) → ((i : ℕ) → one i ≡ true → other i ≡ false) → replace_from k one a (replace_from k other b xs) ≡ replace_from k other b (replace_from k one a xs)
  unfolding replace_from
  swapped_from one other a b k [] h = refl
  swapped_from one other a b k (x ∷ xs) h = ap₂ ◌∷◌ (swapped (one k) (other k) a b x (h k)) (swapped_from one other a b (suc k) xs h)

  joined : (s t : Bool) (new x : A) → cond s new (cond t new x) ≡ cond (s || t) new x
  joined true t new x = refl
  joined false t new x = refl

  joined-from : (one other : ℕ → Bool) (new : A) (k : ℕ) (xs : List A) → replace_from k one new (replace_from k other new xs) ≡ replace_from k (λ i. one i || other i) new xs
  unfolding replace_from
  joined-from one other new k [] = refl
  joined-from one other new k (x ∷ xs) = ap₂ ◌∷◌ (joined (one k) (other k) new x) (joined-from one other new (suc k) xs)

  -- one element set is one place replaced
  set_at : (xs : List A) (i j : ℕ) (new d : A) (t : Bool) → j < length xs → up_to i (i + 1) j ≡ t → get_or (set xs i new) j d ≡ cond t new (get_or xs j d)
  set_at xs i j new d true h e =
      let here = up-to_true i (i + 1) j e in
      ap (λ (n : ℕ). get_or (set xs i new) n d) (omega arith) ∙ get_or-set_same xs i new d (omega arith)
  set_at xs i j new d false h e = get_or-set_other xs i j new d (λ q. false≢true (sym e ∙ true-up_to i (i + 1) j (omega arith) (omega arith)))

  set-replaces : (xs : List A) (i : ℕ) (new : A) → set xs i new ≡ replace (up_to i (i + 1)) new xs
  set-replaces xs i new = ext_get_or new _ _ (length-set xs i new ∙ sym (length-replace (up_to i (i + 1)) new xs)) same
    where
      same : (j : ℕ) → j < length (set xs i new) → get_or (set xs i new) j new ≡ get_or (replace (up_to i (i + 1)) new xs) j new
      same j h =
          let inside : j < length xs = omega (arith, length-set xs i new) in
          set_at xs i j new new (up_to i (i + 1) j) inside refl ∙ sym (get_d_replace (up_to i (i + 1)) new xs j new inside)

-- a run of places filled with one value is those places replaced
module _ {A : Type 0} (xs : List A) (i j : ℕ) (v : A) (p : i ≤ j) (q : j ≤ length xs) where
  abbrev run : List A
  run = replicate (j - i) v

  run_long : length run ≡ j - i
  run_long = length-replicate (j - i) v

  past : (k : ℕ) → up_to i j k ≡ false → i ≤ k → j ≤ k
  past k e h = ⊎_elim (λ z. omega arith) (λ r. absurd (false≢true (sym e ∙ true-up_to i j k h (omega arith)))) (eq-zero-or-pos (j - k))

  run_at : (k : ℕ) → k < length xs → (t : Bool) → up_to i j k ≡ t → get_or (put_chunk i xs run) k v ≡ cond t v (get_or xs k v)
  run_at k h true e =
      let inside = up-to_true i j k e in
      ap (λ (n : ℕ). get_or (put_chunk i xs run) n v) (omega arith)
      ∙ get_or-put_chunk_at i xs run (k - i) v (omega (arith, run_long)) (omega (arith, run_long))
      ∙ get_or-replicate (j - i) (k - i) v v (omega arith)
  run_at k h false e =
      ⊎_elim (λ z. get_or-put_chunk_above i xs run k v (omega (arith, run_long, past k e (omega arith))))
      (λ r. get_or-put_chunk_below i xs run k v (omega arith)) (eq-zero-or-pos (i - k))

  pub fill-replaces : (ys : List A) → ys ≡ replicate (length (mid_of i (j - i) xs)) v → put_mid i (j - i) xs ys ≡ replace (up_to i j) v xs
  fill-replaces ys e =
      let whole : ys ≡ run = e ∙ ap (λ (n : ℕ). replicate n v) (mid_len i j xs q) in
      let filled : put_mid i (j - i) xs run ≡ put_chunk i xs run =
      ap (λ (n : ℕ). take i xs ++ (run ++ drop n (drop i xs))) (sym run_long) ∙ sym (put_chunk_is i xs run (omega (arith, run_long))) in
      ap (put_mid i (j - i) xs) whole
      ∙ filled
      ∙ ext_get_or v _ _ (length-put_chunk i xs run ∙ sym (length-replace (up_to i j) v xs))
      (λ k h.
      let inside : k < length xs = omega (arith, length-put_chunk i xs run) in
      run_at k inside (up_to i j k) refl ∙ sym (get_d_replace (up_to i j) v xs k v inside))

pub same-grid : {g h : Grid} → g.rows ≡ h.rows → g.cols ≡ h.cols → g.sads ≡ h.sads → g ≡ h
same-grid p q r = λ i. record { rows = p i; cols = q i; sads = r i }

-- what a grid holds after a save
module _ (test : ℕ → Bool) (stats : MEStats) (g : Grid) where
  pub save_lengths : (length (save_where test stats g).rows ≡ length g.rows) × (length (save_where test stats g).cols ≡ length g.cols) × (length (save_where test stats g).sads ≡ length g.sads)
  unfolding save_where
  save_lengths = (length-replace test _ g.rows, length-replace test _ g.cols, length-replace test _ g.sads)

  pub read_outside : (i : ℕ) → test i ≡ false → stats_at (save_where test stats g) i ≡ stats_at g i
  unfolding save_where stats_at stored_at
  read_outside i e =
      let row = get_d_kept test stats.mv.row g.rows i (pos 0) e in
      let col = get_d_kept test stats.mv.col g.cols i (pos 0) e in
      let sad = get_d_kept test stats.normalized_sad g.sads i 0 e in
      λ j. record { mv = record { row = row j; col = col j }; normalized_sad = sad j }

  -- a test that no place passes
  pub save_none : ((i : ℕ) → test i ≡ false) → save_where test stats g ≡ g
  unfolding save_where replace
  save_none h = same-grid (none_from test _ 0 g.rows h) (none_from test _ 0 g.cols h) (none_from test _ 0 g.sads h)

pub held-save : (width height : ℕ) (test : ℕ → Bool) (stats : MEStats) (g : Grid) → Held width height g → Held width height (save_where test stats g)
held-save width height test stats g h =
    let l = save_lengths test stats g in
    record { rows = omega (arith, l.0, h.rows); cols = omega (arith, l.1, h.cols); sads = omega (arith, l.2, h.sads) }

pub read_inside : (width height : ℕ) (test : ℕ → Bool) (stats : MEStats) (g : Grid) (i : ℕ) → Held width height g → i < cells width height → test i ≡ true → stats_at (save_where test stats g) i ≡ stats
unfolding save_where stats_at stored_at
read_inside width height test stats g i h p e =
    let row = get_d_replace test stats.mv.row g.rows i (pos 0) (omega (arith, h.rows)) ∙ ap (λ (t : Bool). cond t stats.mv.row (get_or g.rows i (pos 0))) e in
    let col = get_d_replace test stats.mv.col g.cols i (pos 0) (omega (arith, h.cols)) ∙ ap (λ (t : Bool). cond t stats.mv.col (get_or g.cols i (pos 0))) e in
    let sad = get_d_replace test stats.normalized_sad g.sads i 0 (omega (arith, h.sads)) ∙ ap (λ (t : Bool). cond t stats.normalized_sad (get_or g.sads i 0)) e in
    λ j. record { mv = record { row = row j; col = col j }; normalized_sad = sad j }

-- two saves in one grid
pub save_absorbs : (inner outer : ℕ → Bool) (old new : MEStats) (g : Grid) → ((i : ℕ) → inner i ≡ true → outer i ≡ true) → save_where outer new (save_where inner old g) ≡ save_where outer new g
unfolding save_where replace
save_absorbs inner outer old new g h = same-grid (absorbed_from inner outer _ _ 0 g.rows h) (absorbed_from inner outer _ _ 0 g.cols h) (absorbed_from inner outer _ _ 0 g.sads h)

pub save_twice : (test : ℕ → Bool) (stats : MEStats) (g : Grid) → save_where test stats (save_where test stats g) ≡ save_where test stats g
save_twice test stats g = save_absorbs test test stats stats g (λ i e. e)

pub save_swaps : (one other : ℕ → Bool) (a b : MEStats) (g : Grid) → ((i : ℕ) → one i ≡ true → other i ≡ false) → save_where one a (save_where other b g) ≡ save_where other b (save_where one a g)
unfolding save_where replace
save_swaps one other a b g h = same-grid (swapped_from one other _ _ 0 g.rows h) (swapped_from one other _ _ 0 g.cols h) (swapped_from one other _ _ 0 g.sads h)

pub save_joins : (one other : ℕ → Bool) (stats : MEStats) (g : Grid) → save_where one stats (save_where other stats g) ≡ save_where (λ i. one i || other i) stats g
unfolding save_where replace
save_joins one other stats g = same-grid (joined-from one other _ 0 g.rows) (joined-from one other _ 0 g.cols) (joined-from one other _ 0 g.sads)

pub same_test : (one other : ℕ → Bool) (stats : MEStats) (g : Grid) → ((i : ℕ) → one i ≡ other i) → save_where one stats g ≡ save_where other stats g
same_test one other stats g h = ap (λ (test : ℕ → Bool). save_where test stats g) (λ j i. h i j)

-- no cell holds the result yet
pub save_begins : {low i : ℕ} → low ≡ i → (stats : MEStats) (g : Grid) → g ≡ save_where (up_to low i) stats g
save_begins {low} {i} p stats g = sym (save_none (up_to low i) stats g (λ j. ap (λ (m : ℕ). up_to low m j) (sym p) ∙ up-to_none low j))

-- the cells from `low` up to i hold it, and then those up to `high` do
pub save_on : {low i high : ℕ} → low ≤ i → i ≤ high → (stats : MEStats) (g : Grid) {h : Grid} → h ≡ save_where (up_to low i) stats g → save_where (up_to i high) stats h ≡ save_where (up_to low high) stats g
save_on {low} {i} {high} p q stats g e =
    ap (save_where (up_to i high) stats) e
    ∙ save_joins (up_to i high) (up_to low i) stats g
    ∙ same_test _ _ stats g (λ j. up-to_joins low i high j p q)

-- or the next one
pub save_next : {low i next : ℕ} → low ≤ i → i + 1 ≡ next → (stats : MEStats) (g : Grid) {h : Grid} → h ≡ save_where (up_to low i) stats g → grid_of (set h.rows i stats.mv.row) (set h.cols i stats.mv.col) (set h.sads i stats.normalized_sad) ≡ save_where (up_to low next) stats g
unfolding save_where
save_next {low} {i} p n stats g {h} e =
    same-grid {h = save_where (up_to i (i + 1)) stats h} (set-replaces h.rows i _) (set-replaces h.cols i _) (set-replaces h.sads i _)
    ∙ save_on p (omega arith) stats g e
    ∙ ap (λ (m : ℕ). save_where (up_to low m) stats g) n

-- a block's cells by their columns and rows
pub covers_at : (width height size bx by x y : ℕ) → x < width / cell_side → covers width height size bx by (cell_at width x y) ≡ (up_to bx (bx + size / cell_side) x && (up_to by (by + size / cell_side) y && ltb y (height / cell_side)))
unfolding covers cell_at
covers_at width height size bx by x y h =
    let w = width / cell_side in
    let col : (y * w + x) % w ≡ x = mul-add-mod_self_right y w x ∙ mod-eq_of_lt h in
    let row : (y * w + x) / w ≡ y = mul-add-div_right {m = w} (omega arith) y x ∙ ap (λ (n : ℕ). y + n) (div-eq_of_lt h) ∙ omega arith in
    ap₂ (λ (c r : ℕ). up_to bx (bx + size / cell_side) c && (up_to by (by + size / cell_side) r && ltb r (height / cell_side))) col row

-- the same laws of a block's save
pub block_twice : (width height size bx by : ℕ) (stats : MEStats) (g : Grid) → save_block width height size bx by stats (save_block width height size bx by stats g) ≡ save_block width height size bx by stats g
unfolding save_block
block_twice width height size bx by stats g = save_twice (covers width height size bx by) stats g

module _ (width height size bx by : ℕ) (stats : MEStats) (g : Grid) where
  pub held-block : Held width height g → Held width height (save_block width height size bx by stats g)
  unfolding save_block
  held-block = held-save width height (covers width height size bx by) stats g

  pub block_inside : (i : ℕ) → Held width height g → i < cells width height → covers width height size bx by i ≡ true → stats_at (save_block width height size bx by stats g) i ≡ stats
  unfolding save_block
  block_inside = read_inside width height (covers width height size bx by) stats g

  pub block_outside : (i : ℕ) → covers width height size bx by i ≡ false → stats_at (save_block width height size bx by stats g) i ≡ stats_at g i
  unfolding save_block
  block_outside = read_outside (covers width height size bx by) stats g

-- two blocks of one frame
module _ (width height size bx by size' bx' by' : ℕ) (a b : MEStats) (g : Grid) where
  pub block_absorbs : ((i : ℕ) → covers width height size bx by i ≡ true → covers width height size' bx' by' i ≡ true) → save_block width height size' bx' by' b (save_block width height size bx by a g) ≡ save_block width height size' bx' by' b g
  unfolding save_block
  block_absorbs = save_absorbs (covers width height size bx by) (covers width height size' bx' by') a b g

  pub block_swaps : ((i : ℕ) → covers width height size bx by i ≡ true → covers width height size' bx' by' i ≡ false) → save_block width height size bx by a (save_block width height size' bx' by' b g) ≡ save_block width height size' bx' by' b (save_block width height size bx by a g)
  unfolding save_block
  block_swaps = save_swaps (covers width height size bx by) (covers width height size' bx' by') a b g
