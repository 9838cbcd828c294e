pub mod Described
pub mod Finished
pub mod Laws
pub mod MetadataUpdates
pub mod Planned
pub mod Replies
pub mod Turns
pub mod WellFormed
