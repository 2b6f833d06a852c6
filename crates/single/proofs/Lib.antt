-- Laws that several proofs cite.
pub mod OpenedLaws
pub mod AnswerLaws
