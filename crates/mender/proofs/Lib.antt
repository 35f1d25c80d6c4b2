-- Laws of the mender's functions.
pub mod KindLaws
pub mod CountLaws
pub mod CutLaws
pub mod LayLaws
pub mod NextLaws
pub mod TurnLaws
pub mod ReadLaws
pub mod AnswerLaws
