pub mod CoreForm
pub mod Laws
pub mod MetadataForm
pub mod PathsFrom
pub mod ReferenceTo
pub mod WithoutBlobs
