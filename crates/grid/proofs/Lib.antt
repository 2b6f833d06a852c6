-- Laws that several proofs and other crates cite.
pub mod CellLaws
pub mod SaveLaws
pub mod RowLaws
pub mod LentLaws
