-- Laws that several proofs and other crates cite.
pub mod BlockFacts
pub mod PreviousLaws
