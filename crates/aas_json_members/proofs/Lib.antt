pub mod Floats
pub mod Lists
pub mod Lookup
pub mod Objects
pub mod Pairs
pub mod Words
