pub mod Children
pub mod Found
pub mod Own
pub mod Shaped
pub mod Shown
