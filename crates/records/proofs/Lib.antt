-- Laws that several proofs and other crates cite.
pub mod NumberLaws
pub mod FormLaws
pub mod RecordLaws
