-- Laws of a fragment taken in byte by byte: where it stands after i turns. Assumes nothing.
use mathlib.Core.Path.{◌≡◌, sym, ap, ap₂, subst, subst₂, ◌∙◌}
use mathlib.Core.List.{List, [], ◌∷◌}
use Prim.Native.Nat.{ℕ, ◌+◌, ◌-◌, ◌≤◌, ◌<◌}
use lib.ListN.{length, get_or, take, drop, take-append-drop}
use Rattle.grid.specs.Grid.{Grid, room}
use Rattle.records.specs.Numbers.{OfBytes}
use Rattle.gridfile.specs.Reading.{State, next, taken, keep, kept}
use Rattle.gridfile.proofs.EmittedLaws.{kept_append, kept-none, kept-one}
use Rattle.gridfile.proofs.TakenLaws.{refused-keeps}
use Rattle.gridfile.proofs.KeptLaws.{SameLengths, kept-lengths, same-room}
use Rattle.held.specs.declared.state.Reader.{Reader}
use Rattle.held.specs.Held.{reader_of, state_of, Settled}
use Rattle.held.proofs.SeenLaws.{Starts, starts, Seen, one_more, all_of, rest_of, seen_none, seen_all, seen_state, seen_settled, seen_more, seen_rest, seen_number, seen_refused}
use Rattle.reader.specs.Calls.{Fits}
use Rattle.reader.proofs.CallLaws.{fits-taken}

-- what a fragment is taken in with
pub record Begins (space : ℕ) (s : State) (fragment : List ℕ) (lent : Grid) : Type 0 where
  pub state : Starts s fragment
  pub fits : Fits space s
  pub same : space ≡ room lent

pub begins : {space : ℕ} {fragment : List ℕ} {lent : Grid} (r : Reader) → OfBytes r.part → OfBytes fragment → Fits space (state_of r) → space ≡ room lent → Begins space (state_of r) fragment lent
begins r part bytes fits same = record { state = starts r part bytes; fits = fits; same = same }

-- the first i bytes have been taken in
pub record Turned (space : ℕ) (s : State) (fragment : List ℕ) (lent : Grid) (i : ℕ) (r : Reader) (g : Grid) : Type 0 where
  pub seen : Seen space s fragment i r
  pub grid : g ≡ kept space s (take i fragment) lent

-- all of them
abbrev pub Done : ℕ → State → List ℕ → Grid → Reader → Grid → Type 0
Done space s fragment lent r g = (r ≡ reader_of (taken space s fragment)) × (g ≡ kept space s fragment lent)

module _ (space : ℕ) (s : State) (fragment : List ℕ) (lent : Grid) where
  pub turned_none : (r : Reader) → r ≡ reader_of s → Turned space s fragment lent 0 r lent
  turned_none r e = record { seen = seen_none space s fragment r e; grid = sym (kept-none space s lent) }

module _ {space : ℕ} {s : State} {fragment : List ℕ} {lent : Grid} {i : ℕ} {r : Reader} {g : Grid} (t : Turned space s fragment lent i r g) where
  pub turned-all : length fragment ≤ i → Done space s fragment lent r g
  turned-all all = (seen_all t.seen all, t.grid ∙ ap (λ (l : List ℕ). kept space s l lent) (all_of fragment i t.seen.few all))

  pub turned-long : SameLengths g lent
  turned-long = subst (λ (h : Grid). SameLengths h lent) (sym t.grid) (kept-lengths space s (take i fragment) lent)

  module _ (b : Begins space s fragment lent) where
    stands : state_of r ≡ taken space s (take i fragment)
    stands = seen_state t.seen b.state

    pub turned-settled : Settled r
    turned-settled = seen_settled t.seen b.state

    pub turned-fits : Fits space (state_of r)
    turned-fits = subst (Fits space) (sym stands) (fits-taken space s (take i fragment) b.fits)

    pub turned-room : space ≡ room g
    turned-room = b.same ∙ sym (same-room turned-long)

    pub turned_more : i < length fragment → {r' : Reader} {g' : Grid} → r' ≡ reader_of (next space (state_of r) (get_or fragment i 0)) → g' ≡ keep (room g) (state_of r) (get_or fragment i 0) g → Turned space s fragment lent (i + 1) r' g'
    turned_more there e f =
        let byte = get_or fragment i 0 in
        record {
          seen = seen_more t.seen b.state there e;
          grid = f ∙ ap (λ (n : ℕ). keep n (state_of r) byte g) (sym turned-room) ∙ ap₂ (λ (x : State) (h : Grid). keep space x byte h) stands t.grid ∙ sym (ap (λ (l : List ℕ). kept space s l lent) (one_more fragment i there) ∙ kept_append space s (take i fragment) (byte ∷ []) lent ∙ kept-one space (taken space s (take i fragment)) byte (kept space s (take i fragment) lent));
        }

    -- and the rest of the fragment goes on from there
    rest_kept : {g' : Grid} → g' ≡ kept space (state_of r) (take (length fragment - i) (drop i fragment)) g → g' ≡ kept space s fragment lent
    rest_kept e =
        let front = take i fragment in
        let rest = drop i fragment in
        e ∙ ap₂ (λ (x : State) (l : List ℕ). kept space x l g) stands (rest_of fragment i) ∙ ap (kept space (taken space s front) rest) t.grid ∙ sym (kept_append space s front rest lent) ∙ ap (λ (l : List ℕ). kept space s l lent) (take-append-drop i fragment)

    pub turned-rest : {r' : Reader} {g' : Grid} → Done space (state_of r) (take (length fragment - i) (drop i fragment)) g r' g' → Done space s fragment lent r' g'
    turned-rest done = (seen_rest t.seen b.state done.0, rest_kept done.1)

    pub turned-on : {rest : List ℕ} {r' : Reader} {g' : Grid} → rest ≡ drop i fragment → Done (room g) (state_of r) rest g r' g' → Done space s fragment lent r' g'
    turned-on {r' = r'} {g' = g'} is done =
        turned-rest (subst₂ (λ (n : ℕ) (l : List ℕ). Done n (state_of r) l g r' g') (sym turned-room) (is ∙ sym (rest_of fragment i)) done)

    -- of which nothing counts after a refusal
    pub turned-refused : (r.code ≡ 0 → ⊥) → Done space s fragment lent r g
    turned-refused some =
        let rest = take (length fragment - i) (drop i fragment) in
        (seen_refused t.seen b.state some, rest_kept (sym (refused-keeps space (state_of r) (seen_number t.seen b.state some) rest g)))
