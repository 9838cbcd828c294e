pub mod Acts
pub mod Decisions
pub mod Faulty
pub mod Held
pub mod Tasks
