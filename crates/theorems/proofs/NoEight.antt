-- Refusal 8 cannot occur in a run that is not refused: no refinement of any of its steps has an empty window.
-- Assumes nothing.
use mathlib.Core.Path.{◌≡◌, refl, ap, ◌∙◌}
use mathlib.Core.Bool.{Bool, true}
use mathlib.Core.List.{List}
use Prim.Native.Nat.{ℕ, zero, suc, ◌<◌, ◌^◌}
use lib.ListN.{length}
use Rattle.motion.specs.Superblock.{superblocks_along}
use Rattle.grid.specs.Grid.{Grid, room}
use Rattle.grid.specs.Previous.{previous}
use Rattle.refusal.specs.Refusals.{refuse, ◌then◌}
use Rattle.refusal.proofs.RefusalLaws.{none_of}
use Rattle.estimate.specs.Inputs.{Planes}
use Rattle.estimate.specs.Asked.{four, three}
use Rattle.superblock.specs.Step.{windows_ok}
use Rattle.frame.specs.Run.{inputs_at}
use Rattle.order.specs.List.{list_refusal}
use Rattle.steps.specs.Steps.{step_tests, step_refusal}
use Rattle.inter.specs.Runs.{lengths_of, run_tests, run_refusal}
use Rattle.inter.proofs.ReadyLaws.{run-ready}
use Rattle.theorems.specs.Steps.{RunWindowed}
use Rattle.theorems.specs.Demand3.{OfSamples}
use Rattle.theorems.proofs.EstimateStored.{Bytes}
use Rattle.theorems.proofs.WindowsRun.{run-windowed}

-- a step whose windows are not empty is refused, if at all, by refusals 1 to 5
then_none : (n : ℕ) → n then 0 ≡ n
unfolding ◌then◌
then_none zero = refl
then_none (suc n) = refl

pub step-not_eight : (width height level n : ℕ) (cur ref : List ℕ) (present : ℕ) (prev g : Grid) → windows_ok width height level n g.rows g.cols ≡ true → step_refusal width height level n cur ref present prev g ≡ step_tests width height level n (length cur) (length ref) present (room prev) (room g)
unfolding step_refusal refuse
step-not_eight width height level n cur ref present prev g ok =
    let tests = step_tests width height level n (length cur) (length ref) present (room prev) (room g) in
    ap (λ (t : Bool). tests then refuse 8 t) ok ∙ then_none tests

pub never_eight : (width height : ℕ) (cur ref : Planes) (present : ℕ) (prev : Grid) (weight : ℕ) (list : List ℕ) (g : Grid) → OfSamples cur → OfSamples ref → weight < 2 ^ 32 → run_refusal width height cur ref present prev list g ≡ 0 → RunWindowed width height cur ref weight (previous present prev) list g
unfolding run_refusal inputs_at
never_eight width height cur ref present prev weight list g hc hr hw done =
    let none = none_of (run_tests width height (lengths_of cur) (lengths_of ref) present (room prev) (room g)) (list_refusal (superblocks_along width) (superblocks_along height) list) done in
    let ready = run-ready width height cur ref present prev g none.0 in
    let bytes4 : Bytes (inputs_at width height cur ref weight 4) = record {
      ready = record { wide = ready.wide; high = ready.high; leveled = four; cur = ready.quarter.cur; ref = ready.quarter.ref };
      cur = hc 4;
      ref = hr 4;
      weight = hw;
    } in
    let bytes3 : Bytes (inputs_at width height cur ref weight 3) = record {
      ready = record { wide = ready.wide; high = ready.high; leveled = three; cur = ready.half.cur; ref = ready.half.ref };
      cur = hc 3;
      ref = hr 3;
      weight = hw;
    } in
    run-windowed width height cur ref weight bytes4 bytes3 (previous present prev) list none.1 g ready.grids.held
