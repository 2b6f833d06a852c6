-- `motion::block::block_of` meets its contract: each field is what the called function gives.
use native.Mathlib.Omega.{arith}
use Rattle.motion.specs.Block.{plane_of, cropped_to, block_of}
use Rattle.motion.proofs.block.block_of.Goals as goal

pub get_mv_range-range-requires-clause-small : goal.get_mv_range-range-requires-clause-small
unfolding cropped_to
get_mv_range-range-requires-clause-small c = omega (arith, c.cropped-blk_w.ensures, c.cropped-blk_h.ensures)

pub returns : goal.returns
unfolding block_of plane_of
returns c = rw (c.get_mv_range-range.ensures, c.plane_of-plane.ensures, c.cropped-blk_w.ensures, c.cropped-blk_h.ensures)
