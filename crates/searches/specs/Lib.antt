-- What a reader must believe of the entry points that search for a single block: their refusals and their answers.
pub mod Searches
pub mod Refinement
