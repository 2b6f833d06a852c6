-- Demand 3 holds, sentence by sentence. Assumes nothing.
use mathlib.Core.Path.{◌≡◌, sym, ap, subst, ◌∙◌}
use mathlib.Core.Logic.{⊎_elim}
use mathlib.Core.Bool.{true, false}
use mathlib.Core.List.{List}
use Prim.Native.Nat.{ℕ, ◌≤◌, ◌<◌}
use borrow.Author.Tests.{eq-eqb, eqb-true}
use lib.Dec.{eqb}
use lib.ListN.{length}
use Rattle.ground.proofs.TestLaws.{tested}
use Rattle.motion.specs.Superblock.{superblocks_along, superblocks}
use Rattle.grid.specs.Grid.{Grid, cells, room, stats_at}
use Rattle.grid.specs.Previous.{previous}
use Rattle.refusal.proofs.RefusalLaws.{none_of, then_later}
use Rattle.estimate.specs.Inputs.{Planes, plane_at, inputs_of}
use Rattle.frame.specs.Run.{frame_run}
use Rattle.order.specs.List.{raster, list_refusal}
use Rattle.order.proofs.Accepted.{raster-taken}
use Rattle.order.proofs.Pairs.{list_test}
use Rattle.steps.specs.Steps.{step_tests, step_refusal, step_grid}
use Rattle.steps.proofs.ReadyLaws.{step-ready}
use Rattle.inter.specs.Runs.{lengths_of, run_tests, run_refusal, run_grid}
use Rattle.inter.proofs.ReadyLaws.{run-ready}
use Rattle.theorems.specs.Steps.{StepsLeave}
use Rattle.theorems.specs.Demand3.{Holds}
use Rattle.theorems.proofs.OrderLaws.{order}
use Rattle.theorems.proofs.Before.{whatever_before}
use Rattle.theorems.proofs.Past.{step_past, past-stays}
use Rattle.theorems.proofs.NoEight.{never_eight}
use Rattle.theorems.proofs.PublicStep.{public_step}

module _ (width height : ℕ) (cur ref : Planes) (present : ℕ) (prev : Grid) (weight : ℕ) where
  abbrev refusal : List ℕ → Grid → ℕ
  refusal list g = run_refusal width height cur ref present prev list g

  abbrev left : List ℕ → Grid → Grid
  left list g = run_grid width height cur ref present prev weight list g

  abbrev tests : Grid → ℕ
  tests g = run_tests width height (lengths_of cur) (lengths_of ref) present (room prev) (room g)

  abbrev listed : List ℕ → ℕ
  listed list = list_refusal (superblocks_along width) (superblocks_along height) list

  abbrev all : List ℕ
  all = raster (superblocks width height)

  -- a run that its tests let through is refused as its list is
  as_listed : (list : List ℕ) (g : Grid) → tests g ≡ 0 → {n : ℕ} → listed list ≡ n → refusal list g ≡ n
  unfolding run_refusal
  as_listed list g e f = then_later (tests g) (listed list) e ∙ f

  -- one that is not refused passes both
  parts : (list : List ℕ) (g : Grid) → refusal list g ≡ 0 → (tests g ≡ 0) × (listed list ≡ 0)
  unfolding run_refusal
  parts list g done = none_of (tests g) (listed list) done

  raster-zero : (g : Grid) → tests g ≡ 0 → refusal all g ≡ 0
  unfolding superblocks
  raster-zero g e = as_listed all g e (raster-taken (superblocks_along width) (superblocks_along height))

  done_is : (list : List ℕ) (g : Grid) → refusal list g ≡ 0 → left list g ≡ frame_run width height cur ref weight (previous present prev) list g
  unfolding run_grid
  done_is list g done = rw (eq-eqb _ 0 done)

  as_raster : (list : List ℕ) (g : Grid) → refusal list g ≡ 0 → left list g ≡ left all g
  as_raster list g done =
      let both = parts list g done in
      let ready = run-ready width height cur ref present prev g both.0 in
      done_is list g done ∙ order width height ready.wide ready.high cur ref weight (previous present prev) list both.1 g
      ∙ sym (done_is all g (raster-zero g both.0))

  as_before : (list : List ℕ) (g h : Grid) → refusal list g ≡ 0 → refusal list h ≡ 0 → (c : ℕ) → c < cells width height → stats_at (left list g) c ≡ stats_at (left list h) c
  as_before list g h one other c inside =
      let both = parts list g one in
      let ready = run-ready width height cur ref present prev g both.0 in
      let second = run-ready width height cur ref present prev h (parts list h other).0 in
      ap (λ (a : Grid). stats_at a c) (done_is list g one)
      ∙ whatever_before width height ready.wide ready.high cur ref weight (previous present prev) list both.1 g h ready.grids.held second.grids.held c inside
      ∙ sym (ap (λ (a : Grid). stats_at a c) (done_is list h other))

  past-run : (list : List ℕ) (g : Grid) (c : ℕ) → cells width height ≤ c → stats_at (left list g) c ≡ stats_at g c
  unfolding run_grid
  past-run list g c past = ⊎_elim done refused (tested (eqb (refusal list g) 0))
    where
      done : eqb (refusal list g) 0 ≡ true → stats_at (left list g) c ≡ stats_at g c
      done e =
          let ready = run-ready width height cur ref present prev g (parts list g (eqb-true (refusal list g) 0 e)).0 in
          rw e (past-stays width height ready.wide cur ref weight (previous present prev) list g c past)

      refused : eqb (refusal list g) 0 ≡ false → stats_at (left list g) c ≡ stats_at g c
      refused e = rw e

  module _ (level n : ℕ) (g : Grid) (c : ℕ) (past : cells width height ≤ c) where
    abbrev number : ℕ
    number = step_refusal width height level n (plane_at cur level) (plane_at ref level) present prev g

    past-step : stats_at (step_grid width height level n (plane_at cur level) (plane_at ref level) present prev weight g) c ≡ stats_at g c
    unfolding step_refusal step_grid
    past-step = ⊎_elim done refused (tested (eqb number 0))
      where
        done : eqb number 0 ≡ true → stats_at (step_grid width height level n (plane_at cur level) (plane_at ref level) present prev weight g) c ≡ stats_at g c
        done e =
            let none = none_of (step_tests width height level n (length (plane_at cur level)) (length (plane_at ref level)) present (room prev) (room g)) _ (eqb-true number 0 e) in
            let ready = step-ready width height level n (plane_at cur level) (plane_at ref level) present prev g none.0 in
            rw e (step_past (inputs_of width height level (plane_at cur level) (plane_at ref level) weight) (previous present prev) (ready.ready weight).wide c past n g)

        refused : eqb number 0 ≡ false → stats_at (step_grid width height level n (plane_at cur level) (plane_at ref level) present prev weight g) c ≡ stats_at g c
        refused e = rw e

pub demand_3 : Holds
unfolding superblocks
demand_3 width height cur ref hc hr present prev weight hw =
    let test = list_test (superblocks_along width) (superblocks_along height) in
    let same = as_raster width height cur ref present prev weight in
    record {
      raster-grid = same;
      whatever_before = as_before width height cur ref present prev weight;
      six = λ list g e none. as_listed width height cur ref present prev weight list g e ((test list).six none);
      seven = λ list g e once pair. as_listed width height cur ref present prev weight list g e ((test list).seven once pair);
      accepted = λ list g e once none. as_listed width height cur ref present prev weight list g e ((test list).taken once none);
      raster-accepted = raster-zero width height cur ref present prev weight;
      never_eight = λ list g done. never_eight width height cur ref present prev weight list g hc hr hw done;
      public_step = λ list g done.
          subst (StepsLeave width height cur ref present prev weight list g) (same list g done) (public_step width height cur ref present prev weight list g hc hr hw done);
      run_past = past-run width height cur ref present prev weight;
      step_past = past-step width height cur ref present prev weight;
    }
