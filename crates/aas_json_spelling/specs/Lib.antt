pub mod Good
pub mod Kept
pub mod Lists
pub mod Mapped
pub mod Reading
pub mod Reads
pub mod Spells
pub mod Values
