-- What programs over grid files are promised of a pass over a file.
pub mod Again
pub mod Sums
