pub mod Depth
pub mod OnePath
pub mod Patches
pub mod Paths
pub mod Removed
