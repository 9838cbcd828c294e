pub mod Elements
pub mod Poured
pub mod Shown
pub mod Submodels
pub mod Trees
pub mod Walk
