-- Laws that several proofs cite, the theorems of a listing made block by block and of a file, and the documents' examples.
pub mod LineLaws
pub mod CellLaws
pub mod ListedLaws
pub mod FileLaws
pub mod Whole
pub mod Examples
