pub mod Counted
pub mod Escapes
pub mod Lists
pub mod NameLemmas
pub mod RowsByName
pub mod Shallow
