-- What is said of a record and what it adds to the totals; what is kept of the records before; and what is asked and promised on the way.
pub mod Said
pub mod Count
pub mod Bounds
pub mod Sums
pub mod Parts
pub mod Memory
pub mod Step
pub mod Judge
pub mod Weigh
pub mod Narrow
