-- What a reader must believe of a frame run.
pub mod Run
