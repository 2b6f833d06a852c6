-- Laws that several proofs and other crates cite.
pub mod ReadyLaws
pub mod OutcomeLaws
