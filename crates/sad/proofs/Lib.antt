-- Laws that several proofs and other crates cite.
pub mod Sums
pub mod PairLaws
pub mod Places
pub mod Contained
pub mod CostLaws
