-- What a secretary's words at the desk name, and cases of it.
pub mod Words
pub mod Cases
