-- What the readers of single fields answer, in the words of document 01's definitions.
pub mod Field
