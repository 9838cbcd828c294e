pub mod Attributes
pub mod Folded
pub mod Lists
pub mod Split
pub mod Walks
