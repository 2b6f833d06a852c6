-- What a reader must believe of tests of many numbers.
pub mod Every
