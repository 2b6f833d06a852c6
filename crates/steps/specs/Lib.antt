-- What a reader must believe of the entry point on a superblock: its refusals and its answer.
pub mod Steps
