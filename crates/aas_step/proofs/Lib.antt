pub mod Imported
mod Results
mod Storable
pub mod Validity
