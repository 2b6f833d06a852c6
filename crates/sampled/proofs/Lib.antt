-- Laws that several proofs and other crates cite.
pub mod SlotLaws
pub mod SampledLaws
pub mod InsideLaws
pub mod HeldCells
