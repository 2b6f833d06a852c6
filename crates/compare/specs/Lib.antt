-- What a reader must believe of two grids that are compared: where they differ, what the call answers, and what is promised of
-- the places and of the files.
pub mod Differ
pub mod Answer
pub mod Places
pub mod Files
