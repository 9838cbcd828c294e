mod Arrays
mod Children
mod Entries
mod Found
pub mod Gathered
mod InMemory
mod Low
mod Pages
mod Planned
mod Ranked
mod Stored
mod Values
