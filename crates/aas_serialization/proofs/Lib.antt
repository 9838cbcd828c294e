mod Along
pub mod Choices
mod Closings
mod OneClosure
pub mod Walked
