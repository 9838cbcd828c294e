pub mod KeptData
pub mod Nesting
pub mod Within
