pub mod Documents
pub mod Elements
pub mod Metadata
pub mod Parts
pub mod Shape
pub mod Trees
pub mod Whole
