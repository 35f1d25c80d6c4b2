-- What is written over a lent slice, and where.
pub mod Written
pub mod Shown
pub mod ClaimsText
pub mod Respelling
pub mod RecordText
pub mod LogText
pub mod Given
