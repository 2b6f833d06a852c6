-- What a reader must believe of the tests behind the refusals.
pub mod Refusals
pub mod Kinds
pub mod Present
