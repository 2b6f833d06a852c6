-- Laws of one byte taken in by a reader that nothing was wrong with so far. Assumes nothing.
use mathlib.Core.Path.{◌≡◌, refl, sym, ap, ap₂, ◌∙◌}
use mathlib.Core.Bool.{Bool, true, false}
use mathlib.Core.List.{List, [], ◌∷◌, ◌++◌}
use Prim.Native.Nat.{ℕ, suc, ◌+◌, ◌-◌, ◌*◌, ◌≤◌, ◌<◌}
use native.Mathlib.Numerals.{add-one}
use native.Mathlib.Omega.{arith}
use borrow.Author.Tests.{lt-ltb, le-ltb, eq-eqb, ne_eqb}
use lib.ListN.{length, get_or, take, set, replicate, length-append, get_or-append}
use lib.Seq.{set_at, append_snoc, get_or-take, get_or_at}
use Rattle.records.specs.Forms.{one_sad, mark, header_bytes, cell_bytes}
use Rattle.gridfile.specs.Reading.{State, head_of, begun, refused_at, marked, header_done, header_end, cell_done, record_byte, header_byte, cell_byte, next}
use Rattle.gridfile.proofs.TakenLaws.{byte_wrong, byte_more, byte_last}
use Rattle.held.specs.declared.state.Reader.{Reader}
use Rattle.held.specs.Held.{plain, part_bytes, reader_of, state_of}
use Rattle.held.proofs.OpenLaws.{Open, reader_with}

module _ (r : Reader) (o : Open r) where
  -- the bytes that are held, and the state
  abbrev pub bytes : List ℕ
  bytes = take r.held r.part

  abbrev pub held-state : State
  held-state = begun (plain 0 r.columns r.rows r.cells) bytes

  -- one byte more is held
  stored : (b : ℕ) → suc r.held ≤ part_bytes → set r.part r.held b ≡ bytes ++ b ∷ replicate (part_bytes - suc r.held) 0
  stored b h =
      let rest : part_bytes - r.held ≡ suc (part_bytes - suc r.held) = omega arith in
      ap (λ (l : List ℕ). set l r.held b) (sym o.tidy ∙ ap (λ (n : ℕ). bytes ++ replicate n 0) rest)
      ∙ set_at bytes 0 (replicate (part_bytes - suc r.held) 0) b r.held o.long

  longer : (b : ℕ) → length (bytes ++ b ∷ []) ≡ suc r.held
  longer b = length-append bytes (b ∷ []) ∙ ap (λ (n : ℕ). n + 1) o.long ∙ add-one r.held

  -- what `begin` gives
  abbrev pub grown : ℕ → Reader
  grown b = reader_with r.columns r.rows r.cells (r.held + 1) (set r.part r.held b)

  pub begins : (b : ℕ) → suc r.held ≤ part_bytes → grown b ≡ reader_of (begun (state_of r) ((state_of r).part ++ b ∷ []))
  unfolding reader_of begun
  begins b h =
      let more = bytes ++ b ∷ [] in
      let part : set r.part r.held b ≡ more ++ replicate (part_bytes - length more) 0 = stored b h ∙ sym (append_snoc bytes b (replicate (part_bytes - suc r.held) 0)) ∙ ap (λ (n : ℕ). more ++ replicate (part_bytes - n) 0) (sym (longer b)) in
      ap₂ (reader_with r.columns r.rows r.cells) (add-one r.held ∙ sym (longer b)) part
      ∙ ap (λ (s : State). reader_of (begun s (s.part ++ b ∷ []))) (sym o.state)

  -- a byte of a record of so many bytes
  module _ (room b size : ℕ) (done : State) (step : next room (state_of r) b ≡ record_byte mark size done held-state b) where
    place : (t : Bool) → marked mark r.held b ≡ t → marked mark (length held-state.part) b ≡ t
    unfolding begun
    place t e = ap (λ (n : ℕ). marked mark n b) o.long ∙ e

    pub by_wrong : marked mark r.held b ≡ false → reader_of (plain 10 r.columns r.rows r.cells) ≡ reader_of (next room (state_of r) b)
    unfolding refused_at begun
    by_wrong wrong = sym (ap reader_of (step ∙ byte_wrong mark size done held-state b (place false wrong)))

    pub by_more : marked mark r.held b ≡ true → suc r.held < size → reader_of (begun (state_of r) ((state_of r).part ++ b ∷ [])) ≡ reader_of (next room (state_of r) b)
    unfolding begun
    by_more ok left =
        ap (λ (s : State). reader_of (begun s (s.part ++ b ∷ []))) o.state
        ∙ sym (ap reader_of (step ∙ byte_more mark size done held-state b (place true ok) (omega (arith, o.long))))

    pub by_last : marked mark r.held b ≡ true → suc r.held ≡ size → reader_of done ≡ reader_of (next room (state_of r) b)
    unfolding begun
    by_last ok full = sym (ap reader_of (step ∙ byte_last mark size done held-state b (place true ok) (ap suc o.long ∙ full)))

  -- a byte of the header
  module _ (room b : ℕ) (first : r.columns ≡ 0) where
    pub head-next : next room (state_of r) b ≡ record_byte mark header_bytes (header_done room (bytes ++ b ∷ [])) held-state b
    unfolding next header_byte begun
    head-next = ap (λ (s : State). next room s b) o.state ∙ rw (eq-eqb r.columns 0 first)

    -- its last: columns stand in the third, rows in the fourth
    pub head_done : r.held ≡ 3 → header_done room (bytes ++ b ∷ []) ≡ header_end room (head_of (get_or r.part 2 0 + 1) (b + 1))
    unfolding header_done
    head_done full =
        ap₂ (λ (c d : ℕ). header_end room (head_of (c + 1) (d + 1)))
        (get_or-append bytes (b ∷ []) 0 2 (omega (arith, o.long)) ∙ get_or-take r.held r.part 2 0 (omega arith))
        (get_or_at bytes b [] 0 3 (o.long ∙ full))

  -- a byte of a cell
  module _ (room b : ℕ) (read : 0 < r.columns) where
    pub cell-over : r.columns * r.rows ≤ r.cells → reader_of (plain 11 r.columns r.rows r.cells) ≡ reader_of (next room (state_of r) b)
    unfolding next begun refused_at
    cell-over all =
        sym (ap (λ (s : State). reader_of (next room s b)) o.state
        ∙ rw (ne_eqb r.columns 0 (λ e. absurd (omega arith))) (rw (le-ltb r.cells (r.columns * r.rows) all)))

    pub cell-next : r.cells < r.columns * r.rows → next room (state_of r) b ≡ record_byte mark cell_bytes (cell_done held-state one_sad) held-state b
    unfolding next cell_byte begun
    cell-next more =
        ap (λ (s : State). next room s b) o.state
        ∙ rw (ne_eqb r.columns 0 (λ e. absurd (omega arith))) (rw (lt-ltb r.cells (r.columns * r.rows) more))

    pub cell-done : plain 0 r.columns r.rows (suc r.cells) ≡ cell_done held-state one_sad
    unfolding cell_done begun
    cell-done = refl
