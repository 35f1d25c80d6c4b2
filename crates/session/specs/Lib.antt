-- What a session keeps, by its numbers and in lent bytes, what it answers, and that this is what judging gives.
pub mod Entry
pub mod Session
pub mod Keeping
