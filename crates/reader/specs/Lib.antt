-- What the reader's steps answer, in the words of document 01's definitions.
pub mod Line
pub mod Contact
pub mod Record
pub mod Read
pub mod Noted
