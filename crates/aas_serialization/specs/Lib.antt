pub mod Chosen
pub mod Closure
pub mod Laws
pub mod Reached
pub mod Reaches
pub mod Roots
pub mod Taken
