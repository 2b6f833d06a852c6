-- What a reader must believe of a report: its lines, the steps that make it, and what is promised of blocks and of files.
pub mod Lines
pub mod Steps
pub mod Blocks
pub mod Files
