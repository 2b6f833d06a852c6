-- What a reader must believe of the cells that a block samples.
pub mod Slots
pub mod Sampled
