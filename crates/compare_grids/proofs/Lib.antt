-- What the program shows of the files that it was given.
pub mod Accepted
