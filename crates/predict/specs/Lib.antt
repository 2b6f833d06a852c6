-- What a reader must believe of the predictors.
pub mod Threshold
pub mod Predictors
