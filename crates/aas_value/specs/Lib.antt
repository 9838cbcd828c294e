pub mod Attributes
pub mod Children
pub mod Json
pub mod Kinds
pub mod Parts
pub mod Single
pub mod ValueForm
