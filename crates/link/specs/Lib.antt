-- What a link keeps, in its numbers, its unfinished line and lent bytes, what it answers, and that this is what judging the joined bytes gives.
pub mod Link
pub mod Piece
pub mod Keeping
