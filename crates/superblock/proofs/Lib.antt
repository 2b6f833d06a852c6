-- Laws that several proofs and other crates cite.
pub mod GeometryLaws
pub mod StepLaws
pub mod PreviousLaws
