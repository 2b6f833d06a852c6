-- Laws of the grid that is read into: which cells change, and that no buffer's length does. Assumes nothing.
use mathlib.Core.Path.{◌≡◌, refl, ap, ap₂, ◌∙◌}
use mathlib.Core.Bool.{Bool, true, false, cond}
use mathlib.Core.Logic.{⊎_elim}
use mathlib.Core.List.{List, [], ◌∷◌, ◌++◌}
use Prim.Native.Nat.{ℕ, suc, ◌*◌, ◌≤◌, ◌<◌}
use native.Mathlib.Nat.{eq-zero-or-pos}
use native.Mathlib.Omega.{arith}
use borrow.Author.Tests.{ltb-true, eqb-true, eqb-false, ne_eqb}
use lib.Dec.{ltb, eqb}
use lib.IntN.{pos}
use lib.ListN.{length, length-set}
use lib.Seq.{get_or-set_same, get_or-set_other}
use Rattle.grid.specs.declared.cells.MEStats.{MEStats}
use Rattle.grid.specs.Grid.{Grid, stored_at, stats_at, with_cell, room}
use Rattle.records.specs.Forms.{CellForm, mark}
use Rattle.records.specs.Records.{cell_of}
use Rattle.gridfile.specs.Reading.{State, head_of, start, refused_at, begun, marked, header_end, header_done, cell_done, cell_shown, record_byte, header_byte, cell_byte, next, taken, Placed, handed, emitted, keep, kept, read_refusal, read_grid}
use Rattle.gridfile.proofs.EmittedLaws.{placed_same, keep-if, kept-none, kept_more}

-- buffers as long as another grid's
pub record SameLengths (h g : Grid) : Type 0 where
  pub rows : length h.rows ≡ length g.rows
  pub cols : length h.cols ≡ length g.cols
  pub sads : length h.sads ≡ length g.sads

pub as_long : (g : Grid) → SameLengths g g
as_long g = record { rows = refl; cols = refl; sads = refl }

pub then_long : {f g h : Grid} → SameLengths h g → SameLengths g f → SameLengths h f
then_long l m = record { rows = l.rows ∙ m.rows; cols = l.cols ∙ m.cols; sads = l.sads ∙ m.sads }

pub same-room : {h g : Grid} → SameLengths h g → room h ≡ room g
unfolding room
same-room l = rw (l.rows, l.cols, l.sads)

-- one cell
module _ (i : ℕ) (c : MEStats) (g : Grid) where
  pub cell-lengths : SameLengths (with_cell i c g) g
  unfolding with_cell
  cell-lengths =
      record {
        rows = length-set g.rows i c.mv.row;
        cols = length-set g.cols i c.mv.col;
        sads = length-set g.sads i c.normalized_sad;
      }

  pub cell-here : i < room g → stats_at (with_cell i c g) i ≡ c
  unfolding with_cell stats_at stored_at room
  cell-here h =
      let row = get_or-set_same g.rows i c.mv.row (pos 0) (omega arith) in
      let col = get_or-set_same g.cols i c.mv.col (pos 0) (omega arith) in
      let sad = get_or-set_same g.sads i c.normalized_sad 0 (omega arith) in
      λ j. record { mv = record { row = row j; col = col j }; normalized_sad = sad j }

  pub cell_other : (j : ℕ) → (j ≡ i → ⊥) → stats_at (with_cell i c g) j ≡ stats_at g j
  unfolding with_cell stats_at stored_at
  cell_other j other =
      let row = get_or-set_other g.rows i j c.mv.row (pos 0) other in
      let col = get_or-set_other g.cols i j c.mv.col (pos 0) other in
      let sad = get_or-set_other g.sads i j c.normalized_sad 0 other in
      λ k. record { mv = record { row = row k; col = col k }; normalized_sad = sad k }

-- a byte: the state stays, is refused, has one byte more of a record, or ends one
module _ (P : State → Type 0) where
  by_test : (t : Bool) (a b : State) → (t ≡ true → P a) → (t ≡ false → P b) → P (cond t a b)
  by_test true a b p q = p refl
  by_test false a b p q = q refl

  module _ (space : ℕ) (s : State) (byte : ℕ) (stays : P s) (refused : (n : ℕ) → P (refused_at s n)) (begins : (bytes : List ℕ) → P (begun s bytes)) where
    record_is : (mark : List ℕ) (size : ℕ) (done : State) → P done → P (record_byte mark size done s byte)
    unfolding record_byte
    record_is mark size done ends =
        by_test (marked mark (length s.part) byte) _ _
        (λ e. by_test (ltb (suc (length s.part)) size) _ _ (λ e. begins (s.part ++ byte ∷ [])) (λ e. ends)) (λ e. refused 10)

    pub next-is : (s.head.columns ≡ 0 → (columns rows : ℕ) → P (header_end space (head_of columns rows))) → (0 < s.head.columns → (form : CellForm) → P (cell_done s form)) → P (next space s byte)
    unfolding next header_byte cell_byte header_done
    next-is header cell =
        by_test (eqb s.code 0) _ _
        (λ e.
        by_test (eqb s.head.columns 0) _ _ (λ z. record_is _ _ _ (header (eqb-true s.head.columns 0 z) _ _))
        (λ z. by_test (ltb s.cells (s.head.columns * s.head.rows)) _ _ (λ e. record_is _ _ _ (cell (omega (arith, eqb-false s.head.columns 0 z)) _)) (λ e. refused 11)))
        (λ e. stays)

-- once the header has been read its columns and rows stay, and cells are only added
module _ (space : ℕ) (s : State) (byte : ℕ) (read : 0 < s.head.columns) where
  next-columns : (next space s byte).head.columns ≡ s.head.columns
  unfolding refused_at begun cell_done
  next-columns =
      next-is (λ t. t.head.columns ≡ s.head.columns) space s byte refl (λ n. refl) (λ bytes. refl) (λ e. absurd (omega arith)) (λ e form. refl)

  next-rows : (next space s byte).head.rows ≡ s.head.rows
  unfolding refused_at begun cell_done
  next-rows =
      next-is (λ t. t.head.rows ≡ s.head.rows) space s byte refl (λ n. refl) (λ bytes. refl) (λ e. absurd (omega arith)) (λ e form. refl)

  next-cells : s.cells ≤ (next space s byte).cells
  unfolding refused_at begun cell_done
  next-cells =
      next-is (λ t. s.cells ≤ t.cells) space s byte (omega arith) (λ n. omega arith) (λ bytes. omega arith) (λ e. absurd (omega arith)) (λ e form. omega arith)

pub taken-columns : (space : ℕ) (s : State) (bytes : List ℕ) → 0 < s.head.columns → (taken space s bytes).head.columns ≡ s.head.columns
unfolding taken
taken-columns space s [] read = refl
taken-columns space s (b ∷ bytes) read =
    let same = next-columns space s b read in
    taken-columns space (next space s b) bytes (omega (arith, same)) ∙ same

pub taken-rows : (space : ℕ) (s : State) (bytes : List ℕ) → 0 < s.head.columns → (taken space s bytes).head.rows ≡ s.head.rows
unfolding taken
taken-rows space s [] read = refl
taken-rows space s (b ∷ bytes) read =
    taken-rows space (next space s b) bytes (omega (arith, next-columns space s b read)) ∙ next-rows space s b read

-- and how many cells there is room for counts no more
module _ (one other : ℕ) where
  next-free : (s : State) (byte : ℕ) → 0 < s.head.columns → next one s byte ≡ next other s byte
  unfolding next
  next-free s byte read = rw (ne_eqb s.head.columns 0 (λ e. absurd (omega arith)))

  handed-free : (s : State) (byte : ℕ) → 0 < s.head.columns → handed one s byte ≡ handed other s byte
  unfolding handed
  handed-free s byte read =
      let bytes = s.part ++ byte ∷ [] in
      ap {B = List Placed} (λ (t : State). cond (ltb s.cells t.cells) (record { place = s.cells; cell = cell_of (cell_shown s bytes) bytes } ∷ []) []) (next-free s byte read)

  pub taken_free : (s : State) (bytes : List ℕ) → 0 < s.head.columns → taken one s bytes ≡ taken other s bytes
  unfolding taken
  taken_free s [] read = refl
  taken_free s (b ∷ bytes) read =
      ap (λ (t : State). taken one t bytes) (next-free s b read) ∙ taken_free (next other s b) bytes (omega (arith, next-columns other s b read))

  emitted-free : (s : State) (bytes : List ℕ) → 0 < s.head.columns → emitted one s bytes ≡ emitted other s bytes
  unfolding emitted
  emitted-free s [] read = refl
  emitted-free s (b ∷ bytes) read =
      ap₂ (λ (ps : List Placed) (t : State). ps ++ emitted one t bytes) (handed-free s b read) (next-free s b read)
      ∙ ap (λ (ps : List Placed). handed other s b ++ ps) (emitted-free (next other s b) bytes (omega (arith, next-columns other s b read)))

  pub kept_free : (s : State) (bytes : List ℕ) (g : Grid) → 0 < s.head.columns → kept one s bytes g ≡ kept other s bytes g
  unfolding kept
  kept_free s bytes g read = placed_same (emitted-free s bytes read) g

pub taken-cells : (space : ℕ) (s : State) (bytes : List ℕ) → 0 < s.head.columns → s.cells ≤ (taken space s bytes).cells
unfolding taken
taken-cells space s [] read = omega arith
taken-cells space s (b ∷ bytes) read =
    let more = taken-cells space (next space s b) bytes (omega (arith, next-columns space s b read)) in
    omega (arith, next-cells space s b read)

-- before that no cell is added
header-cells : (space : ℕ) (s : State) (byte : ℕ) → s.head.columns ≡ 0 → (next space s byte).cells ≤ s.cells
unfolding refused_at begun header_end
header-cells space s byte first =
    next-is (λ t. t.cells ≤ s.cells) space s byte (omega arith) (λ n. omega arith) (λ bytes. omega arith) (λ e columns rows. omega arith) (λ e form. absurd (omega arith))

lengths_if : (t : Bool) (h g : Grid) → SameLengths h g → SameLengths (cond t h g) g
lengths_if true h g l = l
lengths_if false h g l = as_long g

kept_if : (t : Bool) (h g : Grid) (j : ℕ) → (t ≡ true → stats_at h j ≡ stats_at g j) → stats_at (cond t h g) j ≡ stats_at g j
kept_if true h g j same = same refl
kept_if false h g j same = refl

-- a byte changes the next cell at most
module _ (space : ℕ) (s : State) (byte : ℕ) (g : Grid) where
  pub keep-lengths : SameLengths (keep space s byte g) g
  keep-lengths =
      rw (keep-if space s byte g) (lengths_if (ltb s.cells (next space s byte).cells) _ g (cell-lengths s.cells _ g))

  keep-other : (j : ℕ) → (s.cells < (next space s byte).cells → j ≡ s.cells → ⊥) → stats_at (keep space s byte g) j ≡ stats_at g j
  keep-other j other =
      ap (λ (h : Grid). stats_at h j) (keep-if space s byte g)
      ∙ kept_if (ltb s.cells (next space s byte).cells) _ g j
      (λ e. cell_other s.cells _ g j (other (ltb-true s.cells (next space s byte).cells e)))

-- so bytes change no length
pub kept-lengths : (space : ℕ) (s : State) (bytes : List ℕ) (g : Grid) → SameLengths (kept space s bytes g) g
kept-lengths space s [] g = rw (kept-none space s g) (as_long g)
kept-lengths space s (b ∷ bytes) g =
    rw (kept_more space s b bytes g)
    (then_long (kept-lengths space (next space s b) bytes (keep space s b g)) (keep-lengths space s b g))

pub read_lengths : (file : List ℕ) (g : Grid) → SameLengths (read_grid file g) g
unfolding read_grid
read_lengths file g = lengths_if (eqb (read_refusal file g) 0) _ g (kept-lengths (room g) start file g)

-- no cell that was whole before them
pub kept-below : (space : ℕ) (s : State) (bytes : List ℕ) (g : Grid) (j : ℕ) → 0 < s.head.columns → j < s.cells → stats_at (kept space s bytes g) j ≡ stats_at g j
kept-below space s [] g j read below = ap (λ (h : Grid). stats_at h j) (kept-none space s g)
kept-below space s (b ∷ bytes) g j read below =
    ap (λ (h : Grid). stats_at h j) (kept_more space s b bytes g)
    ∙ kept-below space (next space s b) bytes (keep space s b g) j (omega (arith, next-columns space s b read)) (omega (arith, next-cells space s b read))
    ∙ keep-other space s b g j (λ more e. omega arith)

-- and none past those that are whole after them
pub kept-past : (space : ℕ) (s : State) (bytes : List ℕ) (g : Grid) (j : ℕ) → (taken space s bytes).cells ≤ j → stats_at (kept space s bytes g) j ≡ stats_at g j
unfolding taken
kept-past space s [] g j past = ap (λ (h : Grid). stats_at h j) (kept-none space s g)
kept-past space s (b ∷ bytes) g j past =
    ap (λ (h : Grid). stats_at h j) (kept_more space s b bytes g)
    ∙ kept-past space (next space s b) bytes (keep space s b g) j past
    ∙ keep-other space s b g j
    (λ more e.
    ⊎_elim (λ z. omega (arith, header-cells space s b z))
    (λ p. omega (arith, taken-cells space (next space s b) bytes (omega (arith, next-columns space s b p))))
    (eq-zero-or-pos s.head.columns))
