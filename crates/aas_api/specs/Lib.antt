pub mod Asked
pub mod Interfaces
pub mod Numbers
pub mod Submodels
