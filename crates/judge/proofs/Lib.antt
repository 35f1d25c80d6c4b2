-- The laws of the judge, from what is said of a record to a log as a whole.
pub mod SaidLaws
pub mod ModeLaws
pub mod CountLaws
pub mod SumLaws
pub mod NarrowLaws
pub mod PartLaws
pub mod SquareLaws
pub mod ToldLaws
pub mod RememberLaws
pub mod StepLaws
pub mod WalkLaws
pub mod JudgeLaws
