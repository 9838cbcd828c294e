pub mod Added
pub mod Followed
pub mod Held
pub mod Listed
pub mod Marks
pub mod Paged
