-- What the readers of the header's lines answer, in the words of document 01's definitions.
pub mod Header
