-- The laws of the writer, from a text laid over a list to a log as a whole, and what is shown.
pub mod WrittenLaws
pub mod TextLaid
pub mod TextsLaws
pub mod NumberLaws
pub mod RecordWritten
pub mod RecordLoops
pub mod RecordsWritten
pub mod ClaimLoops
pub mod NumberedLines
pub mod ClaimLines
pub mod RespellingLaws
pub mod ClaimsWritten
pub mod WriteLaws
pub mod WeighedLaws
pub mod ShownLaws
