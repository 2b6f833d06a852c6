-- What a reader must believe of the entry points that tell of a single block: their refusals and their answers.
pub mod Found
pub mod Call
pub mod Leaves
pub mod Predicting
