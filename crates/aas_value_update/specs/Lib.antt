pub mod Forms
pub mod Laws
pub mod LeftAlone
pub mod Shape
pub mod Took
pub mod Update
