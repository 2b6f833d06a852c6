-- What a reader must believe of what is held between two fragments of a file.
pub mod Held
