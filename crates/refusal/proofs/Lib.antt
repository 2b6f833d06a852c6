-- Laws that several proofs and other crates cite.
pub mod RefusalLaws
pub mod KindsLaws
pub mod GridsLaws
pub mod PresentLaws
