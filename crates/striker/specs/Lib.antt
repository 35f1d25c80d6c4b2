-- The text that is left of a log, by places, what the functions under `strike` are given, and what is told of the records that are left.
pub mod KeptText
pub mod Given
pub mod Spread
