-- Laws of striking by places.
pub mod LineLoops
pub mod KeptLaws
pub mod StruckLaws
pub mod SpreadLaws
