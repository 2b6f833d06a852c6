-- Laws of the header: which number its bytes give, and where reading stands after it. Assumes nothing.
use mathlib.Core.Path.{◌≡◌, refl, sym, ap, ap₂, ◌∙◌}
use mathlib.Core.Bool.{Bool, true, false, cond}
use mathlib.Core.List.{List, [], ◌∷◌, ◌++◌}
use mathlib.Core.Logic.{⊎_elim}
use Prim.Native.Nat.{ℕ, zero, suc, ◌+◌, ◌*◌, ◌%◌, ◌≤◌, ◌<◌}
use native.Mathlib.Omega.{arith}
use borrow.Author.Tests.{lt-ltb, le-ltb, le-leb, lt-leb, eq-eqb, ne_eqb}
use lib.Dec.{leb, ltb}
use lib.ListN.{length, get_or, take}
use Rattle.ground.proofs.TestLaws.{tested}
use Rattle.refusal.specs.Refusals.{refuse, ◌then◌}
use Rattle.records.specs.Forms.{mark, header_bytes}
use Rattle.gridfile.specs.Reading.{State, head_of, start, refused_at, begun, marked, header_end, header_done, record_byte, header_byte, next, taken, Placed, handed, emitted}
use Rattle.gridfile.proofs.EmittedLaws.{hands_none}
use Rattle.gridfile.proofs.TakenLaws.{refused-stays, byte_wrong, byte_more, byte_last, past-mark}

-- what the header is refused with: its own refusal, or 11 where it has not ended
abbrev pub state_number : State → ℕ
state_number s = s.code then refuse 11 (ltb 0 s.head.columns)

abbrev pub head_number : ℕ → List ℕ → ℕ
head_number room file = state_number (taken room start (take header_bytes file))

-- the refusal that a mark gives, of which bytes may be missing
abbrev pub mark_number : List ℕ → ℕ → ℕ
mark_number file at =
    refuse 11 (ltb at (length file)) then refuse 10 (marked mark 0 (get_or file at 0)) then refuse 11 (ltb (at + 1) (length file)) then refuse 10 (marked mark 1 (get_or file (at + 1) 0))

-- some bytes of the header have come
abbrev pub head : List ℕ → State
head bytes = begun start bytes

module _ (room : ℕ) where
  head_byte : (bytes : List ℕ) (b : ℕ) → next room (head bytes) b ≡ record_byte mark header_bytes (header_done room (bytes ++ b ∷ [])) (head bytes) b
  unfolding next header_byte begun
  head_byte bytes b = refl

  head-wrong : (bytes : List ℕ) (b : ℕ) → marked mark (length bytes) b ≡ false → next room (head bytes) b ≡ refused_at start 10
  unfolding begun refused_at
  head-wrong bytes b wrong = head_byte bytes b ∙ byte_wrong mark header_bytes (header_done room (bytes ++ b ∷ [])) (head bytes) b wrong

  head_more : (bytes : List ℕ) (b : ℕ) → marked mark (length bytes) b ≡ true → suc (length bytes) < header_bytes → next room (head bytes) b ≡ head (bytes ++ b ∷ [])
  unfolding begun
  head_more bytes b ok left = head_byte bytes b ∙ byte_more mark header_bytes (header_done room (bytes ++ b ∷ [])) (head bytes) b ok left

  head-last : (bytes : List ℕ) (b : ℕ) → marked mark (length bytes) b ≡ true → suc (length bytes) ≡ header_bytes → next room (head bytes) b ≡ header_done room (bytes ++ b ∷ [])
  unfolding begun
  head-last bytes b ok full = head_byte bytes b ∙ byte_last mark header_bytes (header_done room (bytes ++ b ∷ [])) (head bytes) b ok full

  -- a byte of the header hands out no cell
  head-cells : (bytes : List ℕ) (b : ℕ) → (next room (head bytes) b).cells ≡ 0
  unfolding next header_byte record_byte begun refused_at header_done header_end
  head-cells bytes b = each (marked mark (length bytes) b) (ltb (suc (length bytes)) header_bytes)
    where
      each : (s t : Bool) → (cond s (cond t (head (bytes ++ b ∷ [])) (header_done room (bytes ++ b ∷ []))) (refused_at start 10)).cells ≡ 0
      each true true = refl
      each true false = refl
      each false t = refl

  head-hands : (bytes : List ℕ) (b : ℕ) → handed room (head bytes) b ≡ []
  unfolding begun
  head-hands bytes b = hands_none room (head bytes) b (omega (arith, head-cells bytes b))

  -- the whole header, byte by byte
  pub first-wrong : (a : ℕ) (rest : List ℕ) → marked mark 0 a ≡ false → taken room start (a ∷ rest) ≡ refused_at start 10
  unfolding taken begun refused_at
  first-wrong a rest wrong =
      ap (λ (s : State). taken room s rest) (head-wrong [] a wrong) ∙ refused-stays room (refused_at start 10) (λ e. absurd (omega arith)) rest

  module _ (a : ℕ) (first : marked mark 0 a ≡ true) where
    pub first_taken : (rest : List ℕ) → taken room start (a ∷ rest) ≡ taken room (head (a ∷ [])) rest
    unfolding taken begun
    first_taken rest = ap (λ (s : State). taken room s rest) (head_more [] a first (omega arith))

    pub second-wrong : (b : ℕ) (rest : List ℕ) → marked mark 1 b ≡ false → taken room start (a ∷ b ∷ rest) ≡ refused_at start 10
    unfolding taken refused_at
    second-wrong b rest wrong =
        first_taken (b ∷ rest) ∙ ap (λ (s : State). taken room s rest) (head-wrong (a ∷ []) b wrong)
        ∙ refused-stays room (refused_at start 10) (λ e. absurd (omega arith)) rest

    module _ (b : ℕ) (second : marked mark 1 b ≡ true) where
      pub second-taken : (rest : List ℕ) → taken room start (a ∷ b ∷ rest) ≡ taken room (head (a ∷ b ∷ [])) rest
      unfolding taken
      second-taken rest = first_taken (b ∷ rest) ∙ ap (λ (s : State). taken room s rest) (head_more (a ∷ []) b second (omega arith))

      pub third_taken : (c : ℕ) (rest : List ℕ) → taken room start (a ∷ b ∷ c ∷ rest) ≡ taken room (head (a ∷ b ∷ c ∷ [])) rest
      unfolding taken
      third_taken c rest =
          second-taken (c ∷ rest) ∙ ap (λ (s : State). taken room s rest) (head_more (a ∷ b ∷ []) c (past-mark 2 c (omega arith)) (omega arith))

      pub fourth_taken : (c d : ℕ) (rest : List ℕ) → taken room start (a ∷ b ∷ c ∷ d ∷ rest) ≡ taken room (header_end room (head_of (c + 1) (d + 1))) rest
      unfolding taken header_done
      fourth_taken c d rest =
          third_taken c (d ∷ rest)
          ∙ ap (λ (s : State). taken room s rest) (head-last (a ∷ b ∷ c ∷ []) d (past-mark 3 d (omega arith)) refl)

      -- a byte that hands out none, and what comes behind it
      goes_by : (s t : State) (x : ℕ) (bytes : List ℕ) → handed room s x ≡ [] → next room s x ≡ t → emitted room s (x ∷ bytes) ≡ emitted room t bytes
      unfolding emitted
      goes_by s t x bytes none e = ap₂ (λ (ps : List Placed) (u : State). ps ++ emitted room u bytes) none e

      pub header-emitted : (c d : ℕ) (rest : List ℕ) → emitted room start (a ∷ b ∷ c ∷ d ∷ rest) ≡ emitted room (header_end room (head_of (c + 1) (d + 1))) rest
      unfolding header_done begun
      header-emitted c d rest =
          goes_by start (head (a ∷ [])) a (b ∷ c ∷ d ∷ rest) (head-hands [] a) (head_more [] a first (omega arith))
          ∙ goes_by (head (a ∷ [])) (head (a ∷ b ∷ [])) b (c ∷ d ∷ rest) (head-hands (a ∷ []) b) (head_more (a ∷ []) b second (omega arith))
          ∙ goes_by (head (a ∷ b ∷ [])) (head (a ∷ b ∷ c ∷ [])) c (d ∷ rest) (head-hands (a ∷ b ∷ []) c) (head_more (a ∷ b ∷ []) c (past-mark 2 c (omega arith)) (omega arith))
          ∙ goes_by (head (a ∷ b ∷ c ∷ [])) (header_end room (head_of (c + 1) (d + 1))) d rest (head-hands (a ∷ b ∷ c ∷ []) d) (head-last (a ∷ b ∷ c ∷ []) d (past-mark 3 d (omega arith)) refl)

-- where a mark is wrong or its bytes run out
module _ (file : List ℕ) (at : ℕ) where
  pub mark-none : length file ≤ at → mark_number file at ≡ 11
  unfolding refuse ◌then◌
  mark-none h = rw (le-ltb at (length file) h)

  module _ (there : at < length file) where
    pub mark-first : marked mark 0 (get_or file at 0) ≡ false → mark_number file at ≡ 10
    unfolding refuse ◌then◌
    mark-first wrong = rw (lt-ltb at (length file) there) (rw wrong)

    pub mark-one : marked mark 0 (get_or file at 0) ≡ true → length file ≤ at + 1 → mark_number file at ≡ 11
    unfolding refuse ◌then◌
    mark-one ok h = rw (lt-ltb at (length file) there) (rw ok (rw (le-ltb (at + 1) (length file) h)))

  module _ (there : at + 1 < length file) (ok : marked mark 0 (get_or file at 0) ≡ true) where
    pub mark-second : marked mark 1 (get_or file (at + 1) 0) ≡ false → mark_number file at ≡ 10
    unfolding refuse ◌then◌
    mark-second wrong = rw (lt-ltb at (length file) (omega arith)) (rw ok (rw (lt-ltb (at + 1) (length file) there) (rw wrong)))

    pub mark-right : marked mark 1 (get_or file (at + 1) 0) ≡ true → mark_number file at ≡ 0
    unfolding refuse ◌then◌
    mark-right right = rw (lt-ltb at (length file) (omega arith)) (rw ok (rw (lt-ltb (at + 1) (length file) there) (rw right)))

-- 12 and 13
module _ (room columns rows : ℕ) where
  pub odd_columns : (columns % 2 ≡ 0 → ⊥) → (header_end room (head_of columns rows)).code ≡ 12
  unfolding header_end refuse ◌then◌
  odd_columns odd = rw (ne_eqb (columns % 2) 0 odd)

  module _ (even : columns % 2 ≡ 0) where
    pub odd_rows : (rows % 2 ≡ 0 → ⊥) → (header_end room (head_of columns rows)).code ≡ 12
    unfolding header_end refuse ◌then◌
    odd_rows odd = rw (eq-eqb (columns % 2) 0 even) (rw (ne_eqb (rows % 2) 0 odd))

    module _ (both-even : rows % 2 ≡ 0) where
      pub too_many : room < columns * rows → (header_end room (head_of columns rows)).code ≡ 13
      unfolding header_end refuse ◌then◌
      too_many h = rw (eq-eqb (columns % 2) 0 even) (rw (eq-eqb (rows % 2) 0 both-even) (rw (lt-leb (columns * rows) room h)))

      pub none_wrong : columns * rows ≤ room → (header_end room (head_of columns rows)).code ≡ 0
      unfolding header_end refuse ◌then◌
      none_wrong h = rw (eq-eqb (columns % 2) 0 even) (rw (eq-eqb (rows % 2) 0 both-even) (rw (le-leb (columns * rows) room h)))

-- the header's refusal, from the front: the mark, two bytes more, then 12 and 13
pub number-refused : state_number (refused_at start 10) ≡ 10
unfolding refused_at refuse ◌then◌
number-refused = refl

pub number-begun : (bytes : List ℕ) → state_number (head bytes) ≡ 11
unfolding begun refuse ◌then◌
number-begun bytes = refl

pub then_none : (n : ℕ) → n then 0 ≡ n
unfolding ◌then◌
then_none zero = refl
then_none (suc n) = refl

module _ (room : ℕ) where
  pub number-ended : (c d : ℕ) → state_number (header_end room (head_of (c + 1) (d + 1))) ≡ (header_end room (head_of (c + 1) (d + 1))).code
  unfolding header_end refuse
  number-ended c d = rw (lt-ltb 0 (c + 1) (omega arith)) (then_none (header_end room (head_of (c + 1) (d + 1))).code)

  abbrev pub rest_number : List ℕ → ℕ
  rest_number file = refuse 11 (leb header_bytes (length file)) then (header_end room (head_of (get_or file 2 0 + 1) (get_or file 3 0 + 1))).code

  pub short_number : (file : List ℕ) → length file < header_bytes → rest_number file ≡ 11
  unfolding refuse ◌then◌
  short_number file h = rw (lt-leb header_bytes (length file) h)

  pub long_number : (file : List ℕ) → header_bytes ≤ length file → rest_number file ≡ (header_end room (head_of (get_or file 2 0 + 1) (get_or file 3 0 + 1))).code
  unfolding refuse ◌then◌
  long_number file h = rw (le-leb header_bytes (length file) h)

  -- the mark is right
  after_mark : (a b : ℕ) (rest : List ℕ) → marked mark 0 a ≡ true → marked mark 1 b ≡ true → head_number room (a ∷ b ∷ rest) ≡ rest_number (a ∷ b ∷ rest)
  unfolding taken
  after_mark a b [] e f =
      ap state_number (second-taken room a e b f []) ∙ number-begun (a ∷ b ∷ []) ∙ sym (short_number (a ∷ b ∷ []) (omega arith))
  after_mark a b (c ∷ []) e f =
      ap state_number (third_taken room a e b f c []) ∙ number-begun (a ∷ b ∷ c ∷ []) ∙ sym (short_number (a ∷ b ∷ c ∷ []) (omega arith))
  after_mark a b (c ∷ d ∷ rest) e f =
      ap state_number (fourth_taken room a e b f c d []) ∙ number-ended c d ∙ sym (long_number (a ∷ b ∷ c ∷ d ∷ rest) (omega arith))

  -- the mark's number comes first
  mark-then : (file : List ℕ) {n : ℕ} → mark_number file 0 ≡ n → n then rest_number file ≡ mark_number file 0 then rest_number file
  mark-then file e = ap (λ (n : ℕ). n then rest_number file) (sym e)

  after_first : (a : ℕ) (rest : List ℕ) → marked mark 0 a ≡ true → head_number room (a ∷ rest) ≡ mark_number (a ∷ rest) 0 then rest_number (a ∷ rest)
  unfolding taken ◌then◌
  after_first a [] e =
      ap state_number (first_taken room a e []) ∙ number-begun (a ∷ []) ∙ mark-then (a ∷ []) (mark-one (a ∷ []) 0 (omega arith) e (omega arith))
  after_first a (b ∷ rest) e =
      let file = a ∷ b ∷ rest in
      ⊎_elim (λ f. after_mark a b rest e f ∙ mark-then file (mark-right file 0 (omega arith) e f))
      (λ f. ap state_number (second-wrong room a e b (take 2 rest) f) ∙ number-refused ∙ mark-then file (mark-second file 0 (omega arith) e f))
      (tested (marked mark 1 b))

  pub head-number : (file : List ℕ) → head_number room file ≡ mark_number file 0 then rest_number file
  unfolding taken begun ◌then◌
  head-number [] = number-begun [] ∙ mark-then [] (mark-none [] 0 (omega arith))
  head-number (a ∷ rest) =
      ⊎_elim (λ e. after_first a rest e)
      (λ e. ap state_number (first-wrong room a (take 3 rest) e) ∙ number-refused ∙ mark-then (a ∷ rest) (mark-first (a ∷ rest) 0 (omega arith) e))
      (tested (marked mark 0 a))
