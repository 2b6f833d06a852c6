-- What the contracts of the program cite.
pub mod Call
pub mod Tally
