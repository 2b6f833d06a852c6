-- What is proved of the definitions as a whole: what a step reads and writes, that every accepted list gives the raster grid, and
-- the cases at the edges.
pub mod Cells
pub mod Steps
pub mod Demand3
pub mod Rest
pub mod Edges
pub mod Determined
pub mod Threshold
