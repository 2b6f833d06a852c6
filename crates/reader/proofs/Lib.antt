-- Laws that several proofs cite, and the theorems of specs/Fragments.antt.
pub mod KeepLaws
pub mod CallLaws
pub mod TurnLaws
pub mod WholeLaws
pub mod AnswerLaws
pub mod CellLaws
pub mod GoodLaws
pub mod Fragments
