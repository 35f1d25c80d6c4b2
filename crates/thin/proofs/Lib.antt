-- Laws of functions that lend a struct on, from their locals to the functions as a whole.
pub mod Blocks
pub mod Params
pub mod Lend
pub mod Thin
