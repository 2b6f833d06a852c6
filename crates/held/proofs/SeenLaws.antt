-- Laws of a fragment seen byte by byte: the state after i turns. Assumes nothing.
use mathlib.Core.Path.{◌≡◌, sym, ap, ap₂, subst, ◌∙◌}
use mathlib.Core.List.{List, [], ◌∷◌, ◌++◌}
use Prim.Native.Nat.{ℕ, ◌+◌, ◌-◌, ◌≤◌, ◌<◌}
use native.Mathlib.Numerals.{add-one}
use native.Mathlib.Omega.{arith}
use lib.ListN.{length, get_or, take, drop, length-drop, take-append-drop}
use lib.Seq.{take-suc, take-length, take_all}
use Rattle.records.specs.Numbers.{OfBytes}
use Rattle.records.proofs.NumberLaws.{bytes-front}
use Rattle.gridfile.specs.Reading.{State, next, taken}
use Rattle.gridfile.proofs.TakenLaws.{taken-append, refused-stays}
use Rattle.held.specs.declared.state.Reader.{Reader}
use Rattle.held.specs.Held.{reader_of, state_of, Settled}
use Rattle.held.proofs.HeldLaws.{Sound, back, settled_back, sound_of, bytes_of, sound_taken}
use Rattle.held.proofs.OpenLaws.{number-stays}

-- what a fragment is seen with
pub record Starts (s : State) (fragment : List ℕ) : Type 0 where
  pub part : OfBytes s.part
  pub bytes : OfBytes fragment
  pub sound : Sound s

pub starts : {fragment : List ℕ} (r : Reader) → OfBytes r.part → OfBytes fragment → Starts (state_of r) fragment
starts r part bytes = record { part = bytes_of r part; bytes = bytes; sound = sound_of r }

-- the first i bytes have been seen
pub record Seen (space : ℕ) (s : State) (fragment : List ℕ) (i : ℕ) (r : Reader) : Type 0 where
  pub few : i ≤ length fragment
  pub reader : r ≡ reader_of (taken space s (take i fragment))

-- the first bytes of a fragment: one more, all of them, and the rest behind them
module _ (fragment : List ℕ) (i : ℕ) where
  pub one_more : i < length fragment → take (i + 1) fragment ≡ take i fragment ++ get_or fragment i 0 ∷ []
  one_more there = ap (λ (n : ℕ). take n fragment) (add-one i) ∙ take-suc fragment i 0 there

  pub all_of : i ≤ length fragment → length fragment ≤ i → take i fragment ≡ fragment
  all_of few all =
      let done : i ≡ length fragment = omega arith in
      ap (λ (n : ℕ). take n fragment) done ∙ take-length fragment

  pub rest_of : take (length fragment - i) (drop i fragment) ≡ drop i fragment
  rest_of = take_all (length fragment - i) (drop i fragment) (omega (arith, length-drop i fragment))

module _ (space : ℕ) (s : State) (fragment : List ℕ) where
  pub seen_none : (r : Reader) → r ≡ reader_of s → Seen space s fragment 0 r
  unfolding taken
  seen_none r e = record { few = omega arith; reader = e }

module _ {space : ℕ} {s : State} {fragment : List ℕ} {i : ℕ} {r : Reader} (t : Seen space s fragment i r) where
  pub seen_all : length fragment ≤ i → r ≡ reader_of (taken space s fragment)
  seen_all all = t.reader ∙ ap (λ (l : List ℕ). reader_of (taken space s l)) (all_of fragment i t.few all)

  module _ (b : Starts s fragment) where
    front_bytes : OfBytes (take i fragment)
    front_bytes = bytes-front (take i fragment) (drop i fragment) (subst OfBytes (sym (take-append-drop i fragment)) b.bytes)

    now_sound : Sound (taken space s (take i fragment))
    now_sound = sound_taken space s (take i fragment) b.part front_bytes b.sound

    pub seen_state : state_of r ≡ taken space s (take i fragment)
    seen_state = ap state_of t.reader ∙ back now_sound

    pub seen_settled : Settled r
    seen_settled = ap (λ (x : Reader). reader_of (state_of x)) t.reader ∙ settled_back now_sound ∙ sym t.reader

    pub seen_more : i < length fragment → {r' : Reader} → r' ≡ reader_of (next space (state_of r) (get_or fragment i 0)) → Seen space s fragment (i + 1) r'
    unfolding taken
    seen_more there e =
        let byte = get_or fragment i 0 in
        record {
          few = omega arith;
          reader = e ∙ ap (λ (x : State). reader_of (next space x byte)) seen_state ∙ sym (ap reader_of (ap (taken space s) (one_more fragment i there) ∙ taken-append space s (take i fragment) (byte ∷ [])));
        }

    -- and the rest of the fragment goes on from there
    pub seen_rest : {r' : Reader} → r' ≡ reader_of (taken space (state_of r) (take (length fragment - i) (drop i fragment))) → r' ≡ reader_of (taken space s fragment)
    seen_rest e =
        e ∙ ap₂ (λ (x : State) (l : List ℕ). reader_of (taken space x l)) seen_state (rest_of fragment i)
        ∙ ap reader_of (sym (taken-append space s (take i fragment) (drop i fragment)) ∙ ap (taken space s) (take-append-drop i fragment))

    -- of which nothing counts after a refusal
    module _ (some : r.code ≡ 0 → ⊥) where
      pub seen_number : (state_of r).code ≡ 0 → ⊥
      seen_number z = some (sym (number-stays r some) ∙ z)

      pub seen_refused : r ≡ reader_of (taken space s fragment)
      seen_refused =
          seen_rest (sym seen_settled ∙ ap reader_of (sym (refused-stays space (state_of r) seen_number (take (length fragment - i) (drop i fragment)))))
