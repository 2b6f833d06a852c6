-- Laws of a file's cells by their places in it: records whose marks hold go by, the first that does not gives 10, and what the
-- last bytes give. Assumes nothing.
use mathlib.Core.Path.{◌≡◌, refl, sym, ap, ap₂, ◌∙◌}
use mathlib.Core.Bool.{Bool, true, false, ◌&&◌, true≢false}
use mathlib.Core.List.{List, [], ◌∷◌, ◌++◌}
use mathlib.Core.Logic.{⊎_elim}
use Prim.Native.Nat.{ℕ, zero, suc, ◌+◌, ◌-◌, ◌*◌, ◌≤◌, ◌<◌}
use native.Mathlib.Nat.{add_assoc}
use native.Mathlib.Omega.{arith}
use borrow.Author.Tests.{ltb-true, lt-ltb}
use lib.Dec.{ltb}
use lib.ListN.{length, get_or, take, drop, length-drop, drop_of_length-le}
use lib.Seq.{drop-cons, get_or-drop, take_all}
use Rattle.ground.specs.Every.{all_below}
use Rattle.ground.proofs.TestLaws.{tested, both, same}
use Rattle.ground.proofs.EveryLaws.{below_same}
use Rattle.refusal.specs.Refusals.{refuse, ◌then◌}
use Rattle.records.specs.Forms.{plain_forms, mark, header_bytes, cell_bytes}
use Rattle.records.specs.Records.{file_bytes}
use Rattle.gridfile.specs.Reading.{State, head_of, between, begun, marked, taken, ended}
use Rattle.gridfile.proofs.TakenLaws.{taken-append, at_more, part-taken, record_taken}
use Rattle.gridfile.proofs.MarkLaws.{marked_at, eight, behind, eight_long, two-eight, record_at_lem}
use Rattle.gridfile.proofs.AcceptedLaws.{runs_out, wrong_mark, left_over, all_there}
use Rattle.gridfile.proofs.HeaderLaws.{mark_number, mark-none, mark-first, mark-one, mark-second, mark-right}

-- whether the record of a cell starts with the mark
abbrev pub cell_marked : List ℕ → ℕ → Bool
cell_marked file i = marked_at file (file_bytes plain_forms i)

pub next_place : (k : ℕ) → file_bytes plain_forms (suc k) ≡ file_bytes plain_forms k + 10
unfolding file_bytes
next_place k = omega arith

-- a record all of whose bytes are there
module _ (file : List ℕ) (k : ℕ) (there : file_bytes plain_forms (suc k) ≤ length file) where
  abbrev p : ℕ
  p = file_bytes plain_forms k

  ten : p + cell_bytes ≤ length file
  ten = omega (arith, next_place k)

  abbrev rest : List ℕ
  rest = eight file p ten ++ behind file p ten

  module _ (room columns rows : ℕ) (wide : 0 < columns) (more : k < columns * rows) where
    -- it goes by where its mark holds
    pub skips : cell_marked file k ≡ true → taken room (between (head_of columns rows) k) (drop p file) ≡ taken room (between (head_of columns rows) (suc k)) (drop (file_bytes plain_forms (suc k)) file)
    skips ok =
        ap (taken room (between (head_of columns rows) k)) (record_at_lem file p ten ok)
        ∙ taken-append room (between (head_of columns rows) k) (mark ++ eight file p ten) (behind file p ten)
        ∙ ap₂ (λ (s : State) (n : ℕ). taken room s (drop n file)) (record_taken room columns rows k wide more (eight file p ten) (eight_long file p ten)) (sym (next_place k))

    -- and gives 10 where it does not
    first_off : marked mark 0 (get_or file p 0) ≡ false → ended (taken room (between (head_of columns rows) k) (drop p file)) ≡ 10
    unfolding begun
    first_off off =
        ap (λ (bytes : List ℕ). ended (taken room (between (head_of columns rows) k) bytes)) (two-eight file p ten)
        ∙ wrong_mark room columns rows k wide more [] (get_or file (p + 1) 0 ∷ rest) (get_or file p 0) off

    second-off : marked mark 0 (get_or file p 0) ≡ true → marked mark 1 (get_or file (p + 1) 0) ≡ false → ended (taken room (between (head_of columns rows) k) (drop p file)) ≡ 10
    unfolding begun taken
    second-off ok off =
        let a = get_or file p 0 in
        let b = get_or file (p + 1) 0 in
        ap (λ (bytes : List ℕ). ended (taken room (between (head_of columns rows) k) bytes)) (two-eight file p ten)
        ∙ ap (λ (s : State). ended (taken room s (b ∷ rest))) (at_more room columns rows k wide more [] a ok (omega arith))
        ∙ wrong_mark room columns rows k wide more (a ∷ []) rest b off

    pub stops : cell_marked file k ≡ false → ended (taken room (between (head_of columns rows) k) (drop p file)) ≡ 10
    stops off =
        ⊎_elim (λ e. second-off e (sym (ap (λ (t : Bool). t && marked mark 1 (get_or file (p + 1) 0)) e) ∙ off)) first_off (tested (marked mark 0 (get_or file p 0)))

-- the first records of a file, all of whose bytes are there
module _ (file : List ℕ) (room columns rows : ℕ) (wide : 0 < columns) where
  abbrev from_cell : ℕ → State
  from_cell k = taken room (between (head_of columns rows) k) (drop (file_bytes plain_forms k) file)

  pub marks-skip : (k : ℕ) → file_bytes plain_forms k ≤ length file → k ≤ columns * rows → all_below k (cell_marked file) ≡ true → from_cell 0 ≡ from_cell k
  unfolding all_below
  marks-skip zero there few all = refl
  marks-skip (suc k) there few all =
      let halves = both (all_below k (cell_marked file)) (cell_marked file k) all in
      marks-skip k (omega (arith, next_place k)) (omega arith) halves.0 ∙ skips file k there room columns rows wide (omega arith) halves.1

  pub marks-stop : (k : ℕ) → file_bytes plain_forms k ≤ length file → k ≤ columns * rows → all_below k (cell_marked file) ≡ false → ended (from_cell 0) ≡ 10
  unfolding all_below
  marks-stop zero there few off = absurd (true≢false off)
  marks-stop (suc k) there few off =
      ⊎_elim
      (λ all. ap ended (marks-skip k (omega (arith, next_place k)) (omega arith) all) ∙ stops file k there room columns rows wide (omega arith) (sym (ap (λ (t : Bool). t && cell_marked file k) all) ∙ off))
      (λ some. marks-stop k (omega (arith, next_place k)) (omega arith) some) (tested (all_below k (cell_marked file)))

-- a record whose bytes run out: the refusal of its mark, else 11
module _ (room columns rows k : ℕ) (wide : 0 < columns) (more : k < columns * rows) where
  abbrev tail_number : List ℕ → ℕ
  tail_number bytes = mark_number bytes 0 then 11

  is_number : (bytes : List ℕ) {n m : ℕ} → mark_number bytes 0 ≡ n → n then 11 ≡ m → m ≡ tail_number bytes
  is_number bytes e f = sym (ap (λ (n : ℕ). n then 11) e ∙ f)

  abbrev ends : List ℕ → ℕ
  ends bytes = ended (taken room (between (head_of columns rows) k) bytes)

  tail_marked : (a b : ℕ) (rest : List ℕ) → suc (suc (length rest)) < cell_bytes → marked mark 0 a ≡ true → ends (a ∷ b ∷ rest) ≡ tail_number (a ∷ b ∷ rest)
  unfolding begun taken ◌then◌
  tail_marked a b rest few e =
      let first = ap (λ (s : State). ended (taken room s (b ∷ rest))) (at_more room columns rows k wide more [] a e (omega arith)) in
      ⊎_elim
      (λ f. first ∙ ap (λ (s : State). ended (taken room s rest)) (at_more room columns rows k wide more (a ∷ []) b f (omega arith)) ∙ ap ended (part-taken room columns rows k wide more (a ∷ b ∷ []) rest (omega arith) (omega arith)) ∙ runs_out room columns rows k wide more (a ∷ b ∷ rest) ∙ is_number (a ∷ b ∷ rest) (mark-right (a ∷ b ∷ rest) 0 (omega arith) e f) refl)
      (λ f. first ∙ wrong_mark room columns rows k wide more (a ∷ []) rest b f ∙ is_number (a ∷ b ∷ rest) (mark-second (a ∷ b ∷ rest) 0 (omega arith) e f) refl)
      (tested (marked mark 1 b))

  tail_begun : (a : ℕ) (rest : List ℕ) → suc (length rest) < cell_bytes → marked mark 0 a ≡ true → ends (a ∷ rest) ≡ tail_number (a ∷ rest)
  unfolding begun taken ◌then◌
  tail_begun a [] few e =
      ap ended (at_more room columns rows k wide more [] a e (omega arith)) ∙ runs_out room columns rows k wide more (a ∷ [])
      ∙ is_number (a ∷ []) (mark-one (a ∷ []) 0 (omega arith) e (omega arith)) refl
  tail_begun a (b ∷ rest) few e = tail_marked a b rest few e

  tail_ends : (bytes : List ℕ) → length bytes < cell_bytes → ends bytes ≡ tail_number bytes
  unfolding begun taken ◌then◌
  tail_ends [] few = runs_out room columns rows k wide more [] ∙ is_number [] (mark-none [] 0 (omega arith)) refl
  tail_ends (a ∷ rest) few =
      ⊎_elim (λ e. tail_begun a rest few e)
      (λ e. wrong_mark room columns rows k wide more [] rest a e ∙ is_number (a ∷ rest) (mark-first (a ∷ rest) 0 (omega arith) e) refl)
      (tested (marked mark 0 a))

-- a mark by its place in the file
module _ (file : List ℕ) (p : ℕ) where
  there_place : (i j : ℕ) → p + i ≡ j → ltb i (length (drop p file)) ≡ ltb j (length file)
  there_place i j e =
      let left = length-drop p file in
      same (ltb i (length (drop p file))) (ltb j (length file)) (λ t. lt-ltb j (length file) (omega (arith, left, ltb-true i (length (drop p file)) t))) (λ t. lt-ltb i (length (drop p file)) (omega (arith, left, ltb-true j (length file) t)))

  byte_place : (i j : ℕ) → p + i ≡ j → get_or (drop p file) i 0 ≡ get_or file j 0
  byte_place i j e = get_or-drop p file i 0 ∙ ap (λ (n : ℕ). get_or file n 0) e

  pub mark-place : mark_number (drop p file) 0 ≡ mark_number file p
  mark-place =
      let here : p + 0 ≡ p = omega arith in
      ap₂ (λ (s : Bool) (a : ℕ). refuse 11 s then refuse 10 (marked mark 0 a) then refuse 11 (ltb 1 (length (drop p file))) then refuse 10 (marked mark 1 (get_or (drop p file) 1 0))) (there_place 0 p here) (byte_place 0 p here)
      ∙ ap₂ (λ (s : Bool) (b : ℕ). refuse 11 (ltb p (length file)) then refuse 10 (marked mark 0 (get_or file p 0)) then refuse 11 s then refuse 10 (marked mark 1 b)) (there_place 1 (p + 1) refl) (byte_place 1 (p + 1) refl)

-- what a slice from a place to the end holds
pub from_place : (file : List ℕ) (p : ℕ) → take (length file - p) (drop p file) ≡ drop p file
from_place file p = take_all (length file - p) (drop p file) (omega (arith, length-drop p file))

-- the marks of the records behind the header are those of the file's cells
pub marks_behind : (file : List ℕ) (n : ℕ) → all_below n (λ i. marked_at (take (length file - header_bytes) (drop header_bytes file)) (cell_bytes * i)) ≡ all_below n (cell_marked file)
unfolding file_bytes
marks_behind file n =
    below_same n (λ i. marked_at (take (length file - header_bytes) (drop header_bytes file)) (cell_bytes * i)) (cell_marked file)
    (λ k h. rw (from_place, get_or-drop, get_or-drop, add_assoc))

pub tail_at : (file : List ℕ) (room columns rows k : ℕ) (wide : 0 < columns) → k < columns * rows → length file < file_bytes plain_forms (suc k) → ended (from_cell file room columns rows wide k) ≡ mark_number (drop (file_bytes plain_forms k) file) 0 then 11
tail_at file room columns rows k wide more few =
    let p = file_bytes plain_forms k in
    tail_ends room columns rows k wide more (drop p file) (omega (arith, next_place k, length-drop p file))

-- all marks hold, of as many records as are there: which number the file's end gives
module _ (file : List ℕ) (room columns rows : ℕ) (wide : 0 < columns) where
  pub cut_short : (k : ℕ) → k < columns * rows → file_bytes plain_forms k ≤ length file → length file < file_bytes plain_forms (suc k) → all_below k (cell_marked file) ≡ true → ended (from_cell file room columns rows wide 0) ≡ mark_number (drop (file_bytes plain_forms k) file) 0 then 11
  cut_short k more there few all =
      ap ended (marks-skip file room columns rows wide k there (omega arith) all) ∙ tail_at file room columns rows k wide more few

  module _ (there : file_bytes plain_forms (columns * rows) ≤ length file) (all : all_below (columns * rows) (cell_marked file) ≡ true) where
    last-cell : ended (from_cell file room columns rows wide 0) ≡ ended (from_cell file room columns rows wide (columns * rows))
    last-cell = ap ended (marks-skip file room columns rows wide (columns * rows) there (omega arith) all)

    pub too_long : (length file ≡ file_bytes plain_forms (columns * rows) → ⊥) → ended (from_cell file room columns rows wide 0) ≡ 11
    too_long long =
        let p = file_bytes plain_forms (columns * rows) in
        last-cell
        ∙ ap (λ (bytes : List ℕ). ended (taken room (between (head_of columns rows) (columns * rows)) bytes)) (drop-cons file p 0 (omega (arith, long)))
        ∙ left_over room columns rows wide (get_or file p 0) (drop (suc p) file)

    pub just_long : length file ≡ file_bytes plain_forms (columns * rows) → ended (from_cell file room columns rows wide 0) ≡ 0
    unfolding taken
    just_long just =
        last-cell
        ∙ ap (λ (bytes : List ℕ). ended (taken room (between (head_of columns rows) (columns * rows)) bytes)) (drop_of_length-le file {i = file_bytes plain_forms (columns * rows)} (omega arith))
        ∙ all_there room columns rows wide
