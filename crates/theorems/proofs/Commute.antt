-- Steps on two superblocks that share no edge give the same grid in either order. Assumes nothing.
use mathlib.Core.Path.{◌≡◌, refl, sym, ap, ◌∙◌}
use mathlib.Core.Bool.{true, false, true≢false, or_comm}
use mathlib.Core.Logic.{inl, ⊎_elim}
use Prim.Native.Nat.{ℕ, ◌<◌}
use lib.IntN.{pos}
use lib.Seq.{ext_get_or}
use Rattle.ground.proofs.TestLaws.{tested, not_so}
use Rattle.motion.specs.Frame.{Side}
use Rattle.motion.specs.Superblock.{superblocks_along, superblocks}
use Rattle.grid.specs.declared.cells.MEStats.{MEStats}
use Rattle.grid.specs.Grid.{Grid, stored_at, stats_at}
use Rattle.grid.specs.Previous.{Previous}
use Rattle.estimate.specs.Inputs.{Inputs}
use Rattle.superblock.specs.Step.{step}
use Rattle.superblock.proofs.StepLaws.{AsLong, long_more, step-long}
use Rattle.order.specs.List.{shares_edge}
use Rattle.theorems.specs.Cells.{own_cell, beside, NearCell, AgreeOn}
use Rattle.theorems.proofs.CellLaws.{own-once}
use Rattle.theorems.proofs.StepReads.{long_back, step-outside, step-agrees}

-- two grids as long as each other that hold the same in every cell are one
pub same-cells : (g h : Grid) → AsLong g h → ((c : ℕ) → stats_at g c ≡ stats_at h c) → g ≡ h
unfolding stats_at stored_at
same-cells g h long agree =
    let rows = ext_get_or (pos 0) g.rows h.rows (sym long.rows) (λ c p. ap (λ (s : MEStats). s.mv.row) (agree c)) in
    let cols = ext_get_or (pos 0) g.cols h.cols (sym long.cols) (λ c p. ap (λ (s : MEStats). s.mv.col) (agree c)) in
    let sads = ext_get_or 0 g.sads h.sads (sym long.sads) (λ c p. ap (λ (s : MEStats). s.normalized_sad) (agree c)) in
    λ j. record { rows = rows j; cols = cols j; sads = sads j }

-- a superblock that is neither b nor beside it reads no cell of b's
apart_near : (width height a b c : ℕ) → (a ≡ b → ⊥) → beside (superblocks_along width) b a ≡ false → NearCell width height a c → own_cell width height b c ≡ false
apart_near width height a b c other apart it =
    not_so (own_cell width height b c)
    (λ e. let same = own-once width height it.of b c it.own e in
    ⊎_elim (λ is. other (sym is ∙ same)) (λ near. true≢false (sym near ∙ ap (λ (m : ℕ). beside (superblocks_along width) m a) same ∙ apart)) it.near)

beside_back : (across a b : ℕ) → beside across a b ≡ beside across b a
unfolding beside
beside_back across a b = or_comm (shares_edge across a b) (shares_edge across b a)

module _ (i : Inputs) (p : Previous) (wide : Side i.width) (high : Side i.height) where
  -- a cell of the superblock of the one step holds what that step gives it alone
  own_alone : (a b : ℕ) → a < superblocks i.width i.height → b < superblocks i.width i.height → (a ≡ b → ⊥) → beside (superblocks_along i.width) b a ≡ false
      → (g : Grid) (c : ℕ) → own_cell i.width i.height a c ≡ true → stats_at (step i p a (step i p b g)) c ≡ stats_at (step i p b (step i p a g)) c
  own_alone a b ha hb other apart g c own =
      let width = i.width in
      let height = i.height in
      let near : NearCell width height a c = record { of = a; inside = ha; near = inl refl; own = own } in
      let agree : AgreeOn (NearCell width height a) (step i p b g) g = λ d it. step-outside i p wide high b hb g d (apart_near width height a b d other apart it) in
      step-agrees i p wide high a ha (step i p b g) g (long_back (step-long i p b g)) agree c near
      ∙ sym (step-outside i p wide high b hb (step i p a g) c (apart_near width height a b c other apart near))

  -- a cell of neither stays
  neither : (a b : ℕ) → a < superblocks i.width i.height → b < superblocks i.width i.height
      → (g : Grid) (c : ℕ) → own_cell i.width i.height a c ≡ false → own_cell i.width i.height b c ≡ false → stats_at (step i p a (step i p b g)) c ≡ stats_at g c
  neither a b ha hb g c out out' = step-outside i p wide high a ha (step i p b g) c out ∙ step-outside i p wide high b hb g c out'

  pub steps_commute : (a b : ℕ) → a < superblocks i.width i.height → b < superblocks i.width i.height → (a ≡ b → ⊥) → beside (superblocks_along i.width) a b ≡ false
      → (g : Grid) → step i p a (step i p b g) ≡ step i p b (step i p a g)
  steps_commute a b ha hb other apart g =
      same-cells (step i p a (step i p b g)) (step i p b (step i p a g))
      (long_more (long_back (long_more (step-long i p b g) (step-long i p a (step i p b g)))) (long_more (step-long i p a g) (step-long i p b (step i p a g))))
      (λ c. ⊎_elim (own_alone a b ha hb other (beside_back (superblocks_along i.width) b a ∙ apart) g c)
      (λ out. ⊎_elim (λ own. sym (own_alone b a hb ha (λ e. other (sym e)) apart g c own)) (λ out'. neither a b ha hb g c out out' ∙ sym (neither b a hb ha g c out' out)) (tested (own_cell i.width i.height b c)))
      (tested (own_cell i.width i.height a c)))
