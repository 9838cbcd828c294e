mod Acted
mod Decided
pub mod Imported
mod Referred
mod Taken
