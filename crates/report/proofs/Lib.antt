-- Laws that several proofs cite, the theorems of a report made block by block and of two files, and document 02's example.
pub mod LineLaws
pub mod StepLaws
pub mod Whole
pub mod Files
pub mod Examples
