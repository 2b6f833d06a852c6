-- What a reader must believe of the entry point on a frame: its refusals and its answer.
pub mod Runs
