-- Laws that several proofs and other crates cite.
pub mod HeldLaws
pub mod OpenLaws
pub mod ByteLaws
pub mod SeenLaws
