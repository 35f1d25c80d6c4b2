-- What the readers of numbers, dates and times answer, in the words of document 01's definitions.
pub mod Figure
