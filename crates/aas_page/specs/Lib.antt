pub mod Filters
pub mod Laws
pub mod Pages
pub mod Segment
pub mod Walks
