-- What a reader must believe of the searches.
pub mod Result
pub mod Diamond
pub mod Hexagon
pub mod MultiHexagon
pub mod Full
