-- Laws that several proofs cite, and the theorems of specs/Keeps.antt and Peek.antt.
pub mod RefusedLaws
pub mod WriteLaws
pub mod EmittedLaws
pub mod TakenLaws
pub mod AcceptedLaws
pub mod HeaderLaws
pub mod OpenedLaws
pub mod MarkLaws
pub mod PlaceLaws
pub mod KeptLaws
pub mod LeftLaws
pub mod AnswerLaws
pub mod FileLaws
pub mod ReadLaws
pub mod Keeps
pub mod Peek
pub mod Examples
