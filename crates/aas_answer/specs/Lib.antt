pub mod Answers
pub mod Arrays
pub mod Children
pub mod Found
pub mod Listed
pub mod Plans
pub mod Shown
