-- What a reader must believe of patterns and windows.
pub mod Patterns
pub mod Window
-- what inner functions ask, and no reader need believe
pub mod Asked
