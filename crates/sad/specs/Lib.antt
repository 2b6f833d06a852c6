-- What a reader must believe of planes, sums of absolute differences and costs.
pub mod Sad
pub mod Plane
pub mod Cost
pub mod Planes
-- what inner functions ask, and no reader need believe
pub mod Asked
pub mod Pair
