pub mod Accepted
pub mod Counted
pub mod Decided
pub mod Edited
pub mod Reached
