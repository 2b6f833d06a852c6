-- Laws that every crate above may cite.
pub mod TestLaws
pub mod EveryLaws
pub mod ListLaws
pub mod Bias
pub mod Words
