pub mod Children
pub mod Edits
pub mod Laws
pub mod Rows
pub mod Views
