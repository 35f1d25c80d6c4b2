-- What the programs of the desk share.
pub mod Words
