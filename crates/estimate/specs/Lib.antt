-- What a reader must believe of the search and the refinement of one block.
pub mod Inputs
pub mod Lent
pub mod Block
-- what inner functions ask, and no reader need believe
pub mod Asked
