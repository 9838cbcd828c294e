pub mod Array
pub mod Building
pub mod Exact
pub mod Kept
pub mod Object
pub mod Writes
