-- Where the parts of a log lie, and what is told of them to the floors above.
pub mod Places
