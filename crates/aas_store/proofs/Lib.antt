pub mod Above
pub mod Changed
pub mod Counted
pub mod InPlace
pub mod KeptAll
pub mod LaidOut
pub mod Listed
pub mod Merges
pub mod Ordered
pub mod Paths
pub mod PutOver
mod Rowed
pub mod Shelves
