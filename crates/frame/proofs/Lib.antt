-- Laws that several proofs and other crates cite.
pub mod RunLaws
pub mod PreviousLaws
