pub mod Laws
pub mod Put
pub mod WithMetadata
