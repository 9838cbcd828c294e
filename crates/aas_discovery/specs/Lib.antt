pub mod Carriers
pub mod Entries
pub mod Finding
pub mod Ids
pub mod Index
