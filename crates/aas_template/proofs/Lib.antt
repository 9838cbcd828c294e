pub mod Gathered
pub mod Indexed
pub mod Levels
pub mod Lists
pub mod Owners
pub mod Texts
pub mod Themselves
pub mod Walks
