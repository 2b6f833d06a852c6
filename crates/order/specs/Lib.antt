-- What a reader must believe of a frame run's list of superblocks.
pub mod List
pub mod Pairs
pub mod Fold
