pub mod Elements
pub mod Forms
