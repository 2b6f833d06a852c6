-- What a reader must believe of a file that comes in fragments: what each call answers, and that
-- the cuts make no difference.
pub mod Calls
pub mod Fragments
