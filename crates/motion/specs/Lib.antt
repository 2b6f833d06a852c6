-- What a reader must believe of vectors, rate, range, levels, blocks and superblocks.
pub mod Limits
pub mod Vector
pub mod Rate
pub mod Range
pub mod Level
pub mod Block
pub mod Frame
pub mod Superblock
-- what inner functions ask, and no reader need believe
pub mod Asked
