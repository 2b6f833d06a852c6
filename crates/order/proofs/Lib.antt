-- Laws that several proofs and other crates cite.
pub mod EdgeLaws
pub mod TimesLaws
pub mod OrderLaws
pub mod PassLaws
pub mod Accepted
pub mod Pairs
pub mod FoldLaws
pub mod Examples
