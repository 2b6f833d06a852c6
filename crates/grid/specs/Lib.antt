-- What a reader must believe of a grid: its cells, a previous one, and saving a result.
pub mod Grid
pub mod Previous
pub mod Save
pub mod Lent
