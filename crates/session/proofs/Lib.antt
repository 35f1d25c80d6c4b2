-- The laws of the session: the look-back, what is kept of a record, the numbers, and that all of it is what judging gives.
pub mod LookLaws
pub mod FilledLaws
pub mod MoreLaws
pub mod EntryLaws
pub mod JudgedLaws
pub mod SessionLaws
pub mod ComeLaws
pub mod BackLaws
pub mod SliceLaws
pub mod LineLaws
pub mod HoldLaws
pub mod TakingLaws
pub mod GivingLaws
pub mod KeepingLaws
pub mod StepLaws
