pub mod Attributes
pub mod Edits
mod Found
pub mod OneLevel
pub mod Others
pub mod Siblings
mod Steps
mod Walks
