-- Laws of words at the desk.
pub mod NumberLaws
pub mod MarkLaws
pub mod MarkedExactly
pub mod KeywordLaws
pub mod CasesHold
