pub mod Children
pub mod KeptData
