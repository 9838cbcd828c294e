pub mod Accepted
pub mod Decisions
