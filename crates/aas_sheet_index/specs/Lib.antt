pub mod Index
pub mod Keys
pub mod Measuring
pub mod Merging
pub mod Moving
pub mod Sides
