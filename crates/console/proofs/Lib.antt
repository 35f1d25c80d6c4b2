-- Laws of what the programs share.
pub mod DigitLaws
pub mod ReadLaws
