-- Laws that several proofs and other crates cite.
pub mod LeastLaws
pub mod PredictorLaws
pub mod AreaLaws
pub mod RoundLaws
pub mod SubsetLaws
