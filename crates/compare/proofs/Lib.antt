-- Laws that several proofs cite, and the theorems of specs/Places.antt and specs/Files.antt.
pub mod CellLaws
pub mod DifferLaws
pub mod AnswerLaws
pub mod PlaceLaws
pub mod Places
pub mod Files
pub mod Examples
