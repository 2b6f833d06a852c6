-- What a reader must believe of a grid file's records: numbers as bytes, and the parts of a file.
pub mod Numbers
pub mod Forms
pub mod Records
