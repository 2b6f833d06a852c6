-- Laws that several proofs cite, and some numbers as examples.
pub mod PutLaws
pub mod DecimalLaws
pub mod Examples
