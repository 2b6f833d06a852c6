-- One refinement of a block, round the vector stored in its first cell.
use Rattle.std.specs.Prelude.{ℕ, List, length}
use Rattle.motion.specs.declared.vector.MotionVector.{MotionVector}
use Rattle.motion.specs.declared.block.Block.{Block}
use Rattle.motion.specs.Level.{level_of}
use Rattle.motion.specs.Block.{weighed}
use Rattle.grid.specs.Grid.{Grid, cell_at, stored_at, room}
use Rattle.refusal.specs.Refusals.{refuse, ◌then◌, call_refusal, grid_ok}
use Rattle.sad.specs.Cost.{rd_at}
use Rattle.points.specs.Window.{refine_window, window_ok}
use Rattle.search.specs.Full.{refine}
use Rattle.single.specs.declared.found.Found.{Found}
use Rattle.single.specs.Found.{found_of, answer}
use Rattle.single.specs.Call.{block_at}

-- 8: an empty window; else vector, SAD and cost at shift s
unfoldable pub window_answer : (b : Block) (cur ref : List ℕ) (stored : MotionVector) (s : ℕ) → Found
window_answer b cur ref stored s =
    let best = refine (rd_at b cur ref) b.range stored s in
    answer (refuse 8 (window_ok (refine_window b.range stored s))) (found_of best.mv best.rd)

-- refusals 1 to 4, then 5: a grid too short, then 8
unfoldable pub refine_answer : (width height level bx by : ℕ) (cur ref : List ℕ) (g : Grid) (weight : ℕ) → Found
refine_answer width height level bx by cur ref g weight =
    let b = weighed (block_at width height level 1 bx by) weight in
    let stored = stored_at g.rows g.cols (cell_at width bx by) in
    answer (call_refusal width height level 1 bx by (length cur) (length ref) then refuse 5 (grid_ok width height (room g)))
    (window_answer b cur ref stored (level_of level).ssdec)
