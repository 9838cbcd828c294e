pub mod Full
pub mod Laws
