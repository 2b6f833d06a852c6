-- Demand 3: superblocks in any list that keeps edge-sharing pairs in raster order give exactly the raster grid, whatever the grid
-- held before. Any other list is refused.
use Rattle.std.specs.Prelude.{◌≡◌, List, ℕ, ◌≤◌, ◌<◌, ◌^◌, get_or}
use Rattle.motion.specs.Limits.{largest_sample}
use Rattle.motion.specs.Superblock.{superblocks_along, superblocks}
use Rattle.grid.specs.Grid.{Grid, cells, room, stats_at}
use Rattle.grid.specs.Previous.{previous}
use Rattle.estimate.specs.Inputs.{Planes, plane_at}
use Rattle.order.specs.List.{raster}
use Rattle.order.specs.Pairs.{NamesOnce, Against}
use Rattle.steps.specs.Steps.{step_grid}
use Rattle.inter.specs.Runs.{lengths_of, run_tests, run_refusal, run_grid}
use Rattle.theorems.specs.Steps.{RunWindowed, StepsLeave}

-- of a run's frame, planes, previous grid and weight, for every list and every grid
pub record Demand3 (width height : ℕ) (cur ref : Planes) (present : ℕ) (prev : Grid) (weight : ℕ) : Type 0 where
  -- an accepted list ends with the raster grid
  pub raster-grid : (list : List ℕ) (g : Grid) → run_refusal width height cur ref present prev list g ≡ 0 → run_grid width height cur ref present prev weight list g ≡ run_grid width height cur ref present prev weight (raster (superblocks width height)) g
  -- whatever the grid held before
  pub whatever_before : (list : List ℕ) (g h : Grid) → run_refusal width height cur ref present prev list g ≡ 0 → run_refusal width height cur ref present prev list h ≡ 0 → (c : ℕ) → c < cells width height → stats_at (run_grid width height cur ref present prev weight list g) c ≡ stats_at (run_grid width height cur ref present prev weight list h) c
  -- a list that does not name each superblock once is refused with 6
  pub six : (list : List ℕ) (g : Grid) → run_tests width height (lengths_of cur) (lengths_of ref) present (room prev) (room g) ≡ 0 → (NamesOnce (superblocks width height) list → ⊥) → run_refusal width height cur ref present prev list g ≡ 6
  -- any other that has a pair sharing an edge against raster order, with 7
  pub seven : (list : List ℕ) (g : Grid) → run_tests width height (lengths_of cur) (lengths_of ref) present (room prev) (room g) ≡ 0 → NamesOnce (superblocks width height) list → Against (superblocks_along width) list → run_refusal width height cur ref present prev list g ≡ 7
  -- every other list is accepted
  pub accepted : (list : List ℕ) (g : Grid) → run_tests width height (lengths_of cur) (lengths_of ref) present (room prev) (room g) ≡ 0 → NamesOnce (superblocks width height) list → (Against (superblocks_along width) list → ⊥) → run_refusal width height cur ref present prev list g ≡ 0
  -- the raster list itself among them
  pub raster-accepted : (g : Grid) → run_tests width height (lengths_of cur) (lengths_of ref) present (room prev) (room g) ≡ 0 → run_refusal width height cur ref present prev (raster (superblocks width height)) g ≡ 0
  -- 8 can't occur in a run: no step of one that is not refused has an empty window
  pub never_eight : (list : List ℕ) (g : Grid) → run_refusal width height cur ref present prev list g ≡ 0 → RunWindowed width height cur ref weight (previous present prev) list g
  -- the public step, called at levels 4, 3, 2 in the order of an accepted list, is never refused and leaves the raster grid
  pub public_step : (list : List ℕ) (g : Grid) → run_refusal width height cur ref present prev list g ≡ 0 → StepsLeave width height cur ref present prev weight list g (run_grid width height cur ref present prev weight (raster (superblocks width height)) g)
  -- cells past the frame stay in a run
  pub run_past : (list : List ℕ) (g : Grid) (c : ℕ) → cells width height ≤ c → stats_at (run_grid width height cur ref present prev weight list g) c ≡ stats_at g c
  -- and in a step
  pub step_past : (level n : ℕ) (g : Grid) (c : ℕ) → cells width height ≤ c → stats_at (step_grid width height level n (plane_at cur level) (plane_at ref level) present prev weight g) c ≡ stats_at g c

-- samples of at most 16 bits
abbrev pub OfSamples : Planes → Type 0
OfSamples planes = (level k : ℕ) → get_or (plane_at planes level) k 0 ≤ largest_sample

-- it holds for every frame, all planes, every previous grid and every weight of 32 bits
abbrev pub Holds : Type 0
Holds =
    (width height : ℕ) (cur ref : Planes) → OfSamples cur → OfSamples ref → (present : ℕ) (prev : Grid) (weight : ℕ) → weight < 2 ^ 32 → Demand3 width height cur ref present prev weight
