-- Laws that several proofs and other crates cite.
pub mod PatternLaws
pub mod SpanLaws
pub mod WindowLaws
