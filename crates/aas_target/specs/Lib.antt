pub mod Given
pub mod Laws
pub mod Pairs
pub mod Query
pub mod Routes
pub mod Seen
pub mod Values
