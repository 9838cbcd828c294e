pub mod Childless
pub mod Counted
pub mod Faults
pub mod Gathered
pub mod Prepared
pub mod Sent
pub mod Steps
pub mod Takes
