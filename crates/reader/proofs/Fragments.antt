-- However a file is cut it is read as one fragment, a refusal stays, and which cells a file leaves. Assumes nothing.
use mathlib.Core.Path.{◌≡◌, sym, ap, subst₂, ◌∙◌}
use mathlib.Core.List.{List, [], ◌∷◌, ◌++◌, append-nil}
use Prim.Native.Nat.{ℕ}
use native.Mathlib.Omega.{arith}
use Rattle.grid.specs.Grid.{Grid, room}
use Rattle.records.specs.Forms.{Forms}
use Rattle.records.specs.Numbers.{OfBytes}
use Rattle.records.proofs.NumberLaws.{bytes-front, bytes_back}
use Rattle.records.proofs.FormLaws.{all_forms}
use Rattle.gridfile.specs.Reading.{State, start, taken, kept, read_refusal, shape_of, read_answer}
use Rattle.gridfile.proofs.KeptLaws.{kept-past}
use Rattle.gridfile.proofs.FileLaws.{read_grid_lem}
use Rattle.held.specs.declared.state.Reader.{Reader}
use Rattle.held.specs.Held.{reader_of, state_of}
use Rattle.held.proofs.HeldLaws.{Sound, sound_start, refused-back, back, sound_of, bytes_of, sound_taken}
use Rattle.reader.specs.Calls.{taken_from, kept_from, ended_from, new_reader, take_reader, take_grid, end_reader}
use Rattle.reader.specs.Fragments.{take_all, grid_all, joined, AnyCuts, Stays, RefusalStays, AsOne, forms_in, cell_in, GoodOnes, WholeFile}
use Rattle.reader.proofs.CallLaws.{fits-start, fits-takes, fits-keeps, refused-takes, refused-leaves, takes_on, keeps_on, empty_from, bytes-from, sound_from, refused_end, empty_end, end-number, end-columns, end-rows}
use Rattle.reader.proofs.CellLaws.{read_file}
use Rattle.reader.proofs.GoodLaws.{good_count_lem}

-- the calls after the first go on from what it gave back
Cut : State → List ℕ → List (List ℕ) → Grid → Type 0
Cut s f fs g =
    (take_all (reader_of (taken_from s f g)) fs (kept_from s f g) ≡ reader_of (taken_from s (f ++ joined fs) g)) × (grid_all (reader_of (taken_from s f g)) fs (kept_from s f g) ≡ kept_from s (f ++ joined fs) g)

all_cuts : (fs : List (List ℕ)) (s : State) (f : List ℕ) (g : Grid) → Sound s → OfBytes s.part → OfBytes (f ++ joined fs) → Cut s f fs g
unfolding Cut take_all grid_all joined take_reader take_grid
all_cuts [] s f g ok part of_bytes =
    let whole = sym (append-nil f) in
    (ap (λ (l : List ℕ). reader_of (taken_from s l g)) whole, ap (λ (l : List ℕ). kept_from s l g) whole)
all_cuts (f' ∷ fs) s f g ok part of_bytes =
    let t = taken_from s f g in
    let h = kept_from s f g in
    let front = bytes-front f (f' ++ joined fs) of_bytes in
    let sound = sound_from s f g part front ok in
    let rest = all_cuts fs t f' h sound (bytes-from s f g part front) (bytes_back f (f' ++ joined fs) of_bytes) in (
      ap (λ (u : State). take_all (reader_of (taken_from u f' h)) fs (kept_from u f' h)) (back sound) ∙ rest.0 ∙ ap reader_of (takes_on s f (f' ++ joined fs) g),
      ap (λ (u : State). grid_all (reader_of (taken_from u f' h)) fs (kept_from u f' h)) (back sound) ∙ rest.1 ∙ keeps_on s f (f' ++ joined fs) g,
    )

pub any_cuts : AnyCuts
unfolding Cut take_all grid_all joined take_reader take_grid
any_cuts r f fs g part of_bytes = all_cuts fs (state_of r) f g (sound_of r) (bytes_of r part) of_bytes

-- a refusal leaves nothing of a record, so its state comes back as it was
module _ (s : State) (some : s.code ≡ 0 → ⊥) (empty : s.part ≡ []) where
  again : state_of (reader_of s) ≡ s
  again = refused-back s some empty

  stays : Stays (reader_of s)
  unfolding take_reader take_grid end_reader
  stays =
      record {
        take = λ f g. ap (λ (t : State). reader_of (taken_from t f g)) again ∙ ap reader_of (refused-takes s f g some);
        grid = λ f g. ap (λ (t : State). kept_from t f g) again ∙ refused-leaves s f g some;
        end = ap (λ (t : State). reader_of (ended_from t)) again ∙ ap reader_of (refused_end s some empty);
      }

pub refusal_stays : RefusalStays
unfolding take_reader end_reader reader_of
refusal_stays =
    (λ r f g refused. stays (taken_from (state_of r) f g) refused (empty_from (state_of r) f g (sound_of r).none refused), λ r refused. stays (ended_from (state_of r)) refused (empty_end (state_of r) refused))

-- a whole file, read from the start
module _ (file : List ℕ) (g : Grid) (of_bytes : OfBytes file) where
  abbrev whole : State
  whole = taken (room g) start file

  whole-sound : Sound whole
  whole-sound = sound_taken (room g) start file (λ k. omega arith) of_bytes sound_start

  whole-taken : take_reader new_reader file g ≡ reader_of whole
  unfolding new_reader take_reader
  whole-taken = ap (λ (s : State). reader_of (taken_from s file g)) (back sound_start) ∙ ap reader_of (fits-takes start file g (fits-start (room g)))

  whole-kept : take_grid new_reader file g ≡ kept (room g) start file g
  unfolding new_reader take_grid
  whole-kept = ap (λ (s : State). kept_from s file g) (back sound_start) ∙ fits-keeps start file g (fits-start (room g))

  whole-ended : end_reader (take_reader new_reader file g) ≡ reader_of (ended_from whole)
  unfolding end_reader
  whole-ended = ap (λ (r : Reader). reader_of (ended_from (state_of r))) whole-taken ∙ ap (λ (s : State). reader_of (ended_from s)) (back whole-sound)

  as_one : AsOne file g
  unfolding reader_of read_refusal read_answer shape_of
  as_one =
      record {
        number = ap (λ (r : Reader). r.code) whole-ended ∙ end-number whole;
        columns = λ e. ap (λ (r : Reader). r.columns) whole-ended ∙ end-columns whole ∙ sym (ap (λ (n : ℕ). (shape_of n whole.head.columns whole.head.rows).columns) e);
        rows = λ e. ap (λ (r : Reader). r.rows) whole-ended ∙ end-rows whole ∙ sym (ap (λ (n : ℕ). (shape_of n whole.head.columns whole.head.rows).rows) e);
        grid = λ e. whole-kept ∙ sym (read_grid_lem file g e);
      }

  good_ones : GoodOnes file g (take_reader new_reader file g).cells (take_grid new_reader file g)
  unfolding reader_of cell_in
  good_ones =
      subst₂ (λ (r : Reader) (h : Grid). GoodOnes file g r.cells h) (sym whole-taken) (sym whole-kept)
      (record {
        number = good_count_lem file g of_bytes;
        inside = λ i below. (read_file file g of_bytes).inside i below ∙ ap (λ (forms : Forms). cell_in forms file i) (all_forms (forms_in file g));
        past = λ i past. kept-past (room g) start file g i past;
      })

pub whole-file : WholeFile
whole-file file g of_bytes = (as_one file g of_bytes, good_ones file g of_bytes)
