-- What a reader must believe of a listing: the parts of its lines, the lines, the cells that are listed, the steps that make it, and
-- what is promised of blocks and of a file.
pub mod Parts
pub mod Lines
pub mod Cells
pub mod Steps
pub mod Blocks
