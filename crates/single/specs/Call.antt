-- What a call names, and what each vector costs it.
use Rattle.std.specs.Prelude.{ℕ}
use Rattle.motion.specs.declared.block.Block.{Block}
use Rattle.motion.specs.Level.{level_of}
use Rattle.motion.specs.Block.{block_of}
use Rattle.refusal.specs.Refusals.{size_of}

-- the block that a call names by level, refined or not, and cell
unfoldable pub block_at : (width height level refined bx by : ℕ) → Block
block_at width height level refined bx by = block_of width height (level_of level) (size_of level refined) bx by
