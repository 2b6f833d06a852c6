-- Laws that several proofs and other crates cite.
pub mod VectorLaws
pub mod RateLaws
pub mod RangeLaws
pub mod LevelLaws
pub mod AxisLaws
pub mod BlockLaws
