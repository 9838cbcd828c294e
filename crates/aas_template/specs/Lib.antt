pub mod Belonging
pub mod Cardinality
pub mod Differences
pub mod Index
pub mod Laws
pub mod Walk
