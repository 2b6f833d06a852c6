-- What a reader must believe of a superblock step.
pub mod Step
