-- Laws that several proofs and other crates cite.
pub mod ResultLaws
pub mod InRange
pub mod DiamondLaws
pub mod HexagonLaws
pub mod MultiHexagonLaws
pub mod LeastLaws
pub mod HandsBack
pub mod FullLaws
pub mod FoundLaws
