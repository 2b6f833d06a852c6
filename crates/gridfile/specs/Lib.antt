-- What a reader must believe of a grid file: how it is written and read, and what is promised of both together.
pub mod Writing
pub mod Reading
pub mod Peek
pub mod Keeps
