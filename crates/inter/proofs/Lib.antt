-- Laws that several proofs cite.
pub mod ReadyLaws
pub mod OutcomeLaws
